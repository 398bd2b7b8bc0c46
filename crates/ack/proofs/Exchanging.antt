-- Which five delimiters a message is cut by does not matter to its answer: where its bytes that may delimit are exchanged among each other, and the book's keys
-- and codes stay as they are, number and detail are the same and the ACK differs by the exchange alone. Assumes nothing.
use mathlib.Core.Path.{◌≡◌, refl, sym, ap, ap₂, ◌∙◌}
use mathlib.Core.Bool.{Bool, true, false, cond, ◌||◌}
use mathlib.Core.List.{List, [], ◌∷◌, ◌++◌, map, flat_map, map-append}
use Prim.Native.Nat.{ℕ}
use Prim.Native.Char.{code}
use lib.Dec.{eqb, ltb}
use lib.ListN.{length, length-map}
use borrow.Author.Tests.{not-false}
use Rattle.hl7.specs.Text.{bytes}
use Rattle.hl7.specs.Bytes.{is_in, all, differs}
use Rattle.hl7.specs.Cut.{Piece}
use Rattle.hl7.specs.Place.{carriage_return, delims_of}
use Rattle.hl7.specs.Delimiters.{may_delimit, five_of}
use Rattle.hl7.specs.Refusals.{Told, told, Row, first_row, message_rows, form_rows}
use Rattle.hl7.specs.declared.place.Delims.{Delims}
use Rattle.hl7.proofs.Comparing.{and_both, or_neither}
use Rattle.hl7.proofs.Delimiting.{Delimiting, is_plain}
use Rattle.hl7.proofs.Exchanging.{Exchange, exchanged, every, in_neither, Takes, exchange_between, exchange_delims, plain-text, delims_exchanged, field_moved}
use Rattle.grade.specs.Values.{is_stamp}
use Rattle.grade.specs.Book.{decoded}
use Rattle.grade.specs.Header.{msh_of}
use Rattle.grade.specs.Admission.{book_rows, admit_rows, ten_rows}
use Rattle.grade.specs.Grading.{findings_for, grade_of}
use Rattle.grade.specs.declared.finding.Finding.{Finding}
use Rattle.grade.proofs.Exchanging.{Unmoved, all_in, unmoved_by, msh-exchanged, admit_kept, listed_kept, exchanged_grade}
use Rattle.ack.specs.Decimal.{decimal}
use Rattle.grade.specs.Deciding.{has, is_header, is_fault}
use Rattle.ack.specs.Layout.{own_byte, own, marked, joined, copied, msh_line, verdict, msa_line, place_parts, code_text, err_line, ended, ack_lines, ack_bytes}
use Rattle.ack.specs.Answers.{outcome_by, by_rows, short_row, ack_for, answer_of}
use Rattle.ack.proofs.Answering.{answer_unstamped}
use Rattle.ack.proofs.Texts.{is_text, is_own, Each, IsText, is_odd, text-plain, decimal-text, stamp-text, letter-text, place-text, code_own, severity_is, listed-text}
use Rattle.ack.proofs.Promises.{answered-exactly, written_of, written_is}

-- ---- number and detail depend on the ACK by its length alone
told_alike : (rows : List Row) (out ack other : List ℕ) → length other ≡ length ack → (by_rows (rows ++ (short_row other out ∷ [])) other out).told ≡ (by_rows (rows ++ (short_row ack out ∷ [])) ack out).told
told_alike rows out ack other e = ap (λ (n : ℕ). (outcome_by (first_row (rows ++ long n)) other out).told) e ∙ by (first_row (rows ++ (short_row ack out ∷ []))) _ refl
  where
    long : ℕ → List Row
    long n = record { holds = ltb (length out) n; tells = told 11 n } ∷ []

    by : (t : Told) (zero : Bool) → eqb t.number 0 ≡ zero → (outcome_by t other out).told ≡ (outcome_by t ack out).told
    by t true z = rw z (ap (told 0) e)
    by t false z = rw z

-- part by part
infixr 20 ◌beside◌
◌beside◌ : {p q : List ℕ} {ps qs : List (List ℕ)} → p ≡ q → ps ≡ qs → p ∷ ps ≡ q ∷ qs
e beside f = ap₂ ◌∷◌ e f

module _ {σ : ℕ → ℕ} (ex : Exchange σ) where
  fixed : (s : List ℕ) → all is_plain s ≡ true → s ≡ map σ s
  fixed s e = sym (plain-text ex s e)

  decimal_fixed : (n : ℕ) → decimal n ≡ map σ (decimal n)
  decimal_fixed n = fixed (decimal n) (text-plain (decimal n) (decimal-text n))

  -- ---- parts and lines
  marked-exchanged : (mark : ℕ) (parts : List (List ℕ)) → marked (σ mark) (map (map σ) parts) ≡ map σ (marked mark parts)
  unfolding marked
  marked-exchanged mark [] = refl
  marked-exchanged mark (p ∷ ps) = ap (λ (s : List ℕ). σ mark ∷ s) (ap (λ (s : List ℕ). map σ p ++ s) (marked-exchanged mark ps) ∙ sym (map-append σ p (marked mark ps)))

  joined-exchanged : (mark : ℕ) (parts : List (List ℕ)) → joined (σ mark) (map (map σ) parts) ≡ map σ (joined mark parts)
  unfolding joined
  joined-exchanged mark [] = refl
  joined-exchanged mark (p ∷ ps) = ap (λ (s : List ℕ). map σ p ++ s) (marked-exchanged mark ps) ∙ sym (map-append σ p (marked mark ps))

  lines-exchanged : (lines : List (List ℕ)) → flat_map ended (map (map σ) lines) ≡ map σ (flat_map ended lines)
  unfolding flat_map may_delimit is_in
  lines-exchanged [] = refl
  lines-exchanged (line ∷ lines) =
      let whole : ended (map σ line) ≡ map σ (ended line) = ap (λ (c : ℕ). map σ line ++ (c ∷ [])) (sym (ex.plain carriage_return refl)) ∙ sym (map-append σ line (carriage_return ∷ [])) in
      ap₂ ◌++◌ whole (lines-exchanged lines) ∙ sym (map-append σ (ended line) (flat_map ended lines))

  own_byte_lem : (d : Delims) (x : ℕ) → is_own x ≡ true → own_byte (exchanged σ d) x ≡ σ (own_byte d x)
  unfolding own_byte is_in
  own_byte_lem d x e = by (eqb x 124) (eqb x 94) (eqb x 126) (eqb x 92) (eqb x 38) e
    where
      chosen : (a b c e f : Bool) → Delims → ℕ → ℕ
      chosen a b c e f d x = cond a d.bar (cond b d.caret (cond c d.tilde (cond e d.backslash (cond f d.ampersand x))))

      by : (a b c e f : Bool) → ((a || (b || (c || (e || (f || false))))) || is_text x) ≡ true → chosen a b c e f (exchanged σ d) x ≡ σ (chosen a b c e f d x)
      by true b c e f h = refl
      by false true c e f h = refl
      by false false true e f h = refl
      by false false false true f h = refl
      by false false false false true h = refl
      by false false false false false h = sym (ex.plain x (and_both (differs carriage_return x) (is_plain x) h).1)

  own-exchanged : (d : Delims) (text : List ℕ) → all is_own text ≡ true → own (exchanged σ d) text ≡ map σ (own d text)
  unfolding all
  own-exchanged d [] e = refl
  own-exchanged d (x ∷ text) e = let both = and_both (is_own x) (all is_own text) e in ap₂ ◌∷◌ (own_byte_lem d x both.0) (own-exchanged d text both.1)

  -- ---- the segments
  module _ (d : Delims) where
    copied-exchanged : (msh : List ℕ) (k : ℕ) → copied (exchanged σ d) (map σ msh) k ≡ map σ (copied d msh k)
    unfolding copied
    copied-exchanged msh k = ap (λ (p : Piece). p.bytes) (field_moved ex d msh k)

    msh_line_lem : (msh stamp : List ℕ) (control : ℕ) → all is_plain stamp ≡ true → msh_line (exchanged σ d) (map σ msh) stamp control ≡ map σ (msh_line d msh stamp control)
    unfolding msh_line all may_delimit is_in
    msh_line_lem msh stamp control e =
        ap (joined (σ d.bar))
        (fixed (bytes "MSH") refl
        beside own-exchanged d (bytes "^~\\&") refl
        beside copied-exchanged msh 5
        beside copied-exchanged msh 6
        beside copied-exchanged msh 3
        beside copied-exchanged msh 4
        beside fixed stamp e
        beside refl
        beside own-exchanged d (bytes "ACK^V04^ACK") refl
        beside decimal_fixed control
        beside copied-exchanged msh 11
        beside fixed (bytes "2.5.1") refl
        beside refl beside refl
        beside fixed (bytes "NE") refl
        beside fixed (bytes "NE") refl
        beside refl beside refl beside refl beside refl
        beside own-exchanged d (bytes "Z23^CDCPHINVS") refl
        beside refl)
        ∙ joined-exchanged d.bar _

    msa_line_lem : (msh : List ℕ) (second : ℕ) → IsText (second ∷ []) → msa_line (exchanged σ d) (map σ msh) second ≡ map σ (msa_line d msh second)
    unfolding msa_line all may_delimit is_in
    msa_line_lem msh second e = ap (joined (σ d.bar)) (fixed (bytes "MSA") refl beside fixed (code "A" ∷ second ∷ []) (text-plain (code "A" ∷ second ∷ []) e) beside copied-exchanged msh 10 beside refl) ∙ joined-exchanged d.bar _

    each_fixed : (ps : List (List ℕ)) → Each IsText ps → ps ≡ map (map σ) ps
    each_fixed [] e = refl
    each_fixed (p ∷ ps) e = fixed p (text-plain p e.0) beside each_fixed ps e.1

    err_line_lem : (f : Finding) → is_odd f ≡ false → err_line (exchanged σ d) f ≡ map σ (err_line d f)
    unfolding err_line all may_delimit is_in
    err_line_lem f e =
        ap (joined (σ d.bar))
        (fixed (bytes "ERR") refl
        beside refl
        beside (ap (joined (σ d.caret)) (each_fixed (place_parts f) (place-text f)) ∙ joined-exchanged d.caret (place_parts f))
        beside own-exchanged d (code_text f.code) (code_own f.code)
        beside fixed (f.severity ∷ []) (text-plain (f.severity ∷ []) (severity_is f e))
        beside (ap₂ ◌++◌ (decimal_fixed f.rule) (own-exchanged d (bytes "^^L") refl) ∙ sym (map-append σ (decimal f.rule) (own d (bytes "^^L"))))
        beside refl)
        ∙ joined-exchanged d.bar _

    err_lines : (findings : List Finding) → has is_odd findings ≡ false → map (err_line (exchanged σ d)) findings ≡ map (map σ) (map (err_line d) findings)
    unfolding has
    err_lines [] e = refl
    err_lines (f ∷ findings) e = let both = or_neither (is_odd f) (has is_odd findings) e in err_line_lem f both.0 beside err_lines findings both.1

    -- ---- the ACK
    pub ack-exchanged : (msh stamp : List ℕ) (control : ℕ) (findings : List Finding) → all is_plain stamp ≡ true → has is_odd findings ≡ false
        → ack_bytes (exchanged σ d) (map σ msh) stamp control findings ≡ map σ (ack_bytes d msh stamp control findings)
    unfolding ack_bytes
    ack-exchanged msh stamp control findings e f =
        ap (flat_map ended) (msh_line_lem msh stamp control e beside msa_line_lem msh (verdict findings) (letter-text (has is_header findings) (has is_fault findings)) beside err_lines findings f)
        ∙ lines-exchanged (ack_lines d msh stamp control findings)

  -- ---- the answer
  module _ (m b : List ℕ) (still : Unmoved σ b) (stamp : List ℕ) (control : ℕ) (out : List ℕ) where
    ack_for_lem : is_stamp stamp ≡ true → ack_for (map σ m) b stamp control ≡ map σ (ack_for m b stamp control)
    ack_for_lem e =
        rw (delims_exchanged ex m, msh-exchanged ex m, listed_kept ex m b still)
        (ack-exchanged (delims_of m) (msh_of m) stamp control (findings_for m b) (text-plain stamp (stamp-text stamp e)) (listed-text m b))

    -- number and detail are the same
    pub exchanged-told : (answer_of (map σ m) b stamp control out).told ≡ (answer_of m b stamp control out).told
    unfolding answer_of
    exchanged-told = by (is_stamp stamp) refl
      where
        by : (right : Bool) → is_stamp stamp ≡ right → (answer_of (map σ m) b stamp control out).told ≡ (answer_of m b stamp control out).told
        by false e = rw (answer_unstamped (map σ m) b stamp control out e, answer_unstamped m b stamp control out e, admit_kept ex m b still)
        by true e =
            let long = ap length (ack_for_lem e) ∙ length-map (ack_for m b stamp control) σ in
            rw (admit_kept ex m b still) (told_alike (ten_rows m b stamp) out (ack_for m b stamp control) (ack_for (map σ m) b stamp control) long)

    -- and where the number is 0 the ACK is exchanged as the message is
    pub exchanged_answer : (answer_of m b stamp control out).told.number ≡ 0 → written_of (answer_of (map σ m) b stamp control out) ≡ map σ (written_of (answer_of m b stamp control out))
    unfolding admit_rows message_rows form_rows book_rows
    exchanged_answer answered =
        let right : is_stamp stamp ≡ true = not-false (is_stamp stamp) ((answered-exactly m b stamp control out).0 answered 9) in
        (written_is (map σ m) b stamp control out (ap (λ (t : Told). t.number) exchanged-told ∙ answered)).0 ∙ ack_for_lem right ∙ ap (map σ) (sym (written_is m b stamp control out answered).0)

-- ---- any five will do
-- the message with the delimiters e instead of its own: it is graded alike and gets the same number and detail, and its ACK has e instead of the message's own too
pub record Rewritten (m b : List ℕ) (e : Delims) : Type 0 where
  pub how : Takes (five_of (delims_of m)) (five_of e)
  pub delims : delims_of (map how.by m) ≡ e
  pub grade : grade_of (map how.by m) b ≡ grade_of m b
  pub told : (stamp : List ℕ) (control : ℕ) (out : List ℕ) → (answer_of (map how.by m) b stamp control out).told ≡ (answer_of m b stamp control out).told
  pub written : (stamp : List ℕ) (control : ℕ) (out : List ℕ) → (answer_of m b stamp control out).told.number ≡ 0
      → written_of (answer_of (map how.by m) b stamp control out) ≡ map how.by (written_of (answer_of m b stamp control out))

-- where both fives may delimit, as those of a message that passes row 4, and no key or code of the book has one of them
pub any_five : (m b : List ℕ) {e : Delims} → Delimiting (delims_of m) → Delimiting e → every (all_in (in_neither (five_of (delims_of m)) (five_of e))) (decoded b) ≡ true → Rewritten m b e
any_five m b own other free =
    let how = exchange_between own other in
    let still = unmoved_by _ how.leaves b free in
    record {
      how = how;
      delims = delims_exchanged how.exchange m ∙ exchange_delims own other;
      grade = exchanged_grade how.exchange m b still;
      told = exchanged-told how.exchange m b still;
      written = exchanged_answer how.exchange m b still;
    }
