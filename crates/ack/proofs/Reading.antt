-- What a reader finds in a written ACK: cut by its CRs it is MSH, MSA and one ERR for each finding, in order, and MSA-1 is what the findings make it.
-- Assumes nothing.
use mathlib.Core.Path.{◌≡◌, refl, sym, ap, subst, ◌∙◌}
use mathlib.Core.Bool.{Bool, true, false, cond, true≢false}
use mathlib.Core.Logic.{◌↔◌}
use mathlib.Core.List.{List, [], ◌∷◌, ◌++◌, map, flat_map, append_assoc}
use Prim.Native.Nat.{ℕ, zero, suc, ◌<◌}
use Prim.Native.Char.{code}
use native.Mathlib.Omega.{arith}
use lib.Dec.{eqb}
use lib.ListN.{length, get_or, take, drop}
use borrow.Author.Tests.{eqb-false, not-true}
use Rattle.hl7.specs.Text.{bytes}
use Rattle.hl7.specs.Bytes.{is_in, all, differs, begins}
use Rattle.hl7.specs.Cut.{ahead, cut, part_at, but_last}
use Rattle.hl7.specs.Place.{delims_of, carriage_return, segments_of, nth_of, cut_unless, part_of_field, is_msh, never_cut, field_of, component_of, in_field, in_segment, place}
use Rattle.hl7.specs.Delimiters.{may_delimit, five_of}
use Rattle.hl7.specs.declared.place.Delims.{Delims}
use Rattle.hl7.proofs.Comparing.{and_both, or_neither, all-at, all_append, all_take, all_drop}
use Rattle.hl7.proofs.Cutting.{cut_delimiter, cut_other}
use Rattle.hl7.proofs.Placing.{field_stands}
use Rattle.hl7.proofs.Delimiting.{Delimiting, plain-without, delimiters_without, delimiter_at}
use Rattle.grade.specs.declared.finding.Finding.{Finding}
use Rattle.ack.specs.Decimal.{decimal}
use Rattle.grade.specs.Deciding.{has, is_header, is_fault}
use Rattle.ack.specs.Layout.{own_byte, own, marked, joined, copied, msh_line, letter, verdict, msa_line, place_parts, code_text, err_line, ended, ack_lines, ack_bytes}
use Rattle.ack.proofs.Texts.{is_text, Each, ◌also◌, each_as, text-plain, text-clean, own-text-clean, decimal-text, letter-text, place-text, code_own, is_odd, severity_is}

-- ---- parts that hold no mark
-- the mark is not among the bytes
abbrev pub Without : ℕ → List ℕ → Type 0
Without mark s = all (differs mark) s ≡ true

-- what stands before the first mark is the first part
cut-ended : (mark : ℕ) (s rest : List ℕ) → Without mark s → cut mark (s ++ (mark ∷ rest)) ≡ s ∷ cut mark rest
unfolding all
cut-ended mark [] rest e = cut_delimiter mark mark rest refl
cut-ended mark (x ∷ s) rest e =
    let both = and_both (differs mark x) (all (differs mark) s) e in
    cut_other mark x (s ++ (mark ∷ rest)) (eqb-false x mark (not-true (eqb x mark) both.0)) ∙ rw (cut-ended mark s rest both.1)

-- what has no mark is not cut
cut-whole : (mark : ℕ) (s : List ℕ) → Without mark s → cut mark s ≡ s ∷ []
unfolding all cut
cut-whole mark [] e = refl
cut-whole mark (x ∷ s) e =
    let both = and_both (differs mark x) (all (differs mark) s) e in
    cut_other mark x s (eqb-false x mark (not-true (eqb x mark) both.0)) ∙ rw (cut-whole mark s both.1)

-- no part of a cut holds the mark
pub part_without : (mark : ℕ) (s : List ℕ) (k : ℕ) → Without mark (part_at (cut mark s) k)
unfolding all cut ahead
part_without mark s k = at (cut mark s) k (parts s)
  where
    more : (x : ℕ) (b : Bool) (ps : List (List ℕ)) → eqb x mark ≡ b → Each (Without mark) ps → Each (Without mark) (ahead b x ps)
    more x true ps e h = (refl, h)
    more x false [] e h = (rw e, tt)
    more x false (p ∷ ps) e h = (rw e h.0, h.1)

    parts : (s : List ℕ) → Each (Without mark) (cut mark s)
    parts [] = (refl, tt)
    parts (x ∷ s) = more x (eqb x mark) (cut mark s) refl (parts s)

    at : (ps : List (List ℕ)) (k : ℕ) → Each (Without mark) ps → Without mark (part_at ps k)
    at [] k h = refl
    at (p ∷ ps) zero h = h.0
    at (p ∷ ps) (suc k) h = at ps k h.1

-- lines that end with a CR are cut as they were put together, and nothing stands after the last
lines_cut : (lines : List (List ℕ)) → Each (Without carriage_return) lines → cut carriage_return (flat_map ended lines) ≡ lines ++ ([] ∷ [])
unfolding flat_map cut
lines_cut [] e = refl
lines_cut (line ∷ lines) e =
    ap (cut carriage_return) (append_assoc line (carriage_return ∷ []) (flat_map ended lines))
    ∙ cut-ended carriage_return line (flat_map ended lines) e.0
    ∙ ap (λ (ps : List (List ℕ)). line ∷ ps) (lines_cut lines e.1)

but_last_lem : (lines : List (List ℕ)) → but_last (lines ++ ([] ∷ [])) ≡ lines
unfolding but_last
but_last_lem [] = refl
but_last_lem (p ∷ []) = refl
but_last_lem (p ∷ (q ∷ lines)) = ap (λ (ps : List (List ℕ)). p ∷ ps) (but_last_lem (q ∷ lines))

-- ---- what the layout is made of holds no CR, where what it copies holds none
abbrev pub Clean : List ℕ → Type 0
Clean s = Without carriage_return s

part-clean : (n from : ℕ) (s : List ℕ) → Clean s → Clean (take n (drop from s))
part-clean n from s e = all_take (differs carriage_return) n (drop from s) (all_drop (differs carriage_return) from s e)

marked-clean : (mark : ℕ) (parts : List (List ℕ)) → differs carriage_return mark ≡ true → Each Clean parts → Clean (marked mark parts)
unfolding marked all
marked-clean mark [] h e = refl
marked-clean mark (p ∷ ps) h e = rw h (all_append (differs carriage_return) p (marked mark ps) e.0 (marked-clean mark ps h e.1))

joined-clean : (mark : ℕ) (parts : List (List ℕ)) → differs carriage_return mark ≡ true → Each Clean parts → Clean (joined mark parts)
unfolding joined all
joined-clean mark [] h e = refl
joined-clean mark (p ∷ ps) h e = all_append (differs carriage_return) p (marked mark ps) e.0 (marked-clean mark ps h e.1)

decimal-clean : (n : ℕ) → Clean (decimal n)
decimal-clean n = text-clean (decimal n) (decimal-text n)

-- a field is a part of its segment
copied-clean : (d : Delims) (msh : List ℕ) (k : ℕ) → Clean msh → Clean (copied d msh k)
unfolding copied
copied-clean d msh k e =
    let p = field_of d msh k in
    subst Clean (field_stands (is_msh msh) d.bar msh k) (part-clean (length p.bytes) p.start msh e)

-- ---- the lines, with delimiters that may be
module _ (d : Delims) (may : Delimiting d) where
  -- none of the five is a CR
  mark_clean : (i : ℕ) → i < 5 → differs carriage_return (get_or (five_of d) i 0) ≡ true
  unfolding may_delimit is_in
  mark_clean i h = all-at (differs carriage_return) (five_of d) i (delimiters_without carriage_return (five_of d) refl may.each) h

  bar-clean : differs carriage_return d.bar ≡ true
  bar-clean = mark_clean 0 (omega arith)

  caret_clean : differs carriage_return d.caret ≡ true
  caret_clean = mark_clean 1 (omega arith)

  -- a text without CR has none either when the five are put into it
  own-clean : (text : List ℕ) → Clean text → Clean (own d text)
  unfolding own_byte all
  own-clean [] e = refl
  own-clean (x ∷ text) e = let both = and_both (differs carriage_return x) (all (differs carriage_return) text) e in rw (byte both.0) (own-clean text both.1)
    where
      pass : (b : Bool) (x y : ℕ) → differs carriage_return x ≡ true → differs carriage_return y ≡ true → differs carriage_return (cond b x y) ≡ true
      pass true x y e f = e
      pass false x y e f = f

      byte : differs carriage_return x ≡ true → differs carriage_return (own_byte d x) ≡ true
      byte h =
          pass (eqb x 124) _ _ bar-clean
          (pass (eqb x 94) _ _ caret_clean
          (pass (eqb x 126) _ _ (mark_clean 2 (omega arith)) (pass (eqb x 92) _ _ (mark_clean 3 (omega arith)) (pass (eqb x 38) _ _ (mark_clean 4 (omega arith)) h))))

  msh-clean : (msh stamp : List ℕ) (control : ℕ) → Clean msh → Clean stamp → Clean (msh_line d msh stamp control)
  unfolding msh_line all
  msh-clean msh stamp control h s =
      joined-clean d.bar _ bar-clean
      (refl
      also own-clean (bytes "^~\\&") refl
      also copied-clean d msh 5 h
      also copied-clean d msh 6 h
      also copied-clean d msh 3 h
      also copied-clean d msh 4 h
      also s
      also refl
      also own-clean (bytes "ACK^V04^ACK") refl
      also decimal-clean control
      also copied-clean d msh 11 h
      also refl also refl also refl also refl also refl also refl also refl also refl also refl
      also own-clean (bytes "Z23^CDCPHINVS") refl
      also tt)

  msa_clean : (msh : List ℕ) (second : ℕ) → Clean msh → all is_text (second ∷ []) ≡ true → Clean (msa_line d msh second)
  unfolding msa_line all
  msa_clean msh second h s = joined-clean d.bar _ bar-clean (refl also text-clean (second ∷ []) s also copied-clean d msh 10 h also tt)

  err_clean : (f : Finding) → is_odd f ≡ false → Clean (err_line d f)
  unfolding err_line all
  err_clean f s =
      joined-clean d.bar _ bar-clean
      (refl
      also refl
      also joined-clean d.caret _ caret_clean (each_as text-clean (place_parts f) (place-text f))
      also own-clean (code_text f.code) (own-text-clean (code_text f.code) (code_own f.code))
      also text-clean (f.severity ∷ []) (severity_is f s)
      also all_append (differs carriage_return) (decimal f.rule) (own d (bytes "^^L")) (decimal-clean f.rule) (own-clean (bytes "^^L") refl)
      also tt)

  errs-clean : (findings : List Finding) → has is_odd findings ≡ false → Each Clean (map (err_line d) findings)
  unfolding has
  errs-clean [] e = tt
  errs-clean (f ∷ findings) e =
      let both = or_neither (is_odd f) (has is_odd findings) e in
      (err_clean f both.0, errs-clean findings both.1)

  -- ---- the ACK
  -- what it copies holds no CR
  module _ (msh stamp : List ℕ) (control : ℕ) (findings : List Finding) (head_clean : Clean msh) (stamp_clean : Clean stamp) (letters : has is_odd findings ≡ false) where
    ack-cut : cut carriage_return (ack_bytes d msh stamp control findings) ≡ ack_lines d msh stamp control findings ++ ([] ∷ [])
    unfolding ack_bytes
    ack-cut =
        lines_cut (ack_lines d msh stamp control findings)
        (msh-clean msh stamp control head_clean stamp_clean, (msa_clean msh (verdict findings) head_clean (letter-text (has is_header findings) (has is_fault findings)), errs-clean findings letters))

    -- the segments of the ACK are MSH, MSA, and one ERR for each finding, in order
    pub ack-segments : segments_of (ack_bytes d msh stamp control findings) ≡ ack_lines d msh stamp control findings
    ack-segments = ap but_last ack-cut ∙ but_last_lem (ack_lines d msh stamp control findings)

-- ---- MSH-1 and MSH-2
-- the ACK begins with the delimiters that it is written with
pub ack_delims : (d : Delims) (msh stamp : List ℕ) (control : ℕ) (findings : List Finding) → delims_of (ack_bytes d msh stamp control findings) ≡ d
unfolding delims_of ack_bytes flat_map msh_line joined marked own_byte
ack_delims d msh stamp control findings = refl

-- ---- MSA-1
abbrev msa1_of : ℕ → List ℕ
msa1_of second = code "A" ∷ second ∷ []

-- its letters may be no delimiter
letters_without : (mark : ℕ) (header fault : Bool) → may_delimit mark ≡ true → Without mark (msa1_of (letter header fault))
unfolding all may_delimit is_in
letters_without mark header fault e = plain-without mark (msa1_of (letter header fault)) e (text-plain (msa1_of (letter header fault)) (letter-text header fault))

-- field 1, repetition 1 of MSA, as a reader finds it
msa1_read : (d : Delims) → Delimiting d → (msh : List ℕ) (header fault : Bool) → (in_segment d (msa_line d msh (letter header fault)) 1 1 0).bytes ≡ msa1_of (letter header fault)
unfolding in_segment in_field nth_of cut_unless component_of never_cut part_of_field msa_line joined marked begins all may_delimit is_in
msa1_read d may msh header fault =
    let second = letter header fault in
    let bar : may_delimit d.bar ≡ true = delimiter_at may 0 (omega arith) in
    let whole : cut d.bar (bytes "MSA" ++ (d.bar ∷ (msa1_of second ++ (d.bar ∷ (copied d msh 10 ++ []))))) ≡ bytes "MSA" ∷ msa1_of second ∷ cut d.bar (copied d msh 10 ++ []) =
    cut-ended d.bar (bytes "MSA") (msa1_of second ++ (d.bar ∷ (copied d msh 10 ++ []))) (plain-without d.bar (bytes "MSA") bar refl)
    ∙ ap (λ (ps : List (List ℕ)). bytes "MSA" ∷ ps) (cut-ended d.bar (msa1_of second) (copied d msh 10 ++ []) (letters_without d.bar header fault bar)) in
    ap (λ (ps : List (List ℕ)). part_at (cut d.tilde (part_at ps 1)) 0) whole
    ∙ ap (λ (ps : List (List ℕ)). part_at ps 0) (cut-whole d.tilde (msa1_of second) (letters_without d.tilde header fault (delimiter_at may 2 (omega arith))))

both : {A B C : Type 0} → A ↔ B → B ↔ C → A ↔ C
both f g = (λ a. g.0 (f.0 a), λ c. f.1 (g.1 c))

letter_ar : (header fault : Bool) → (letter header fault ≡ code "R") ↔ (header ≡ true)
letter_ar true fault = (λ e. refl, λ e. refl)
letter_ar false true = (λ e. absurd (omega (arith, e)), λ e. absurd (true≢false (sym e)))
letter_ar false false = (λ e. absurd (omega (arith, e)), λ e. absurd (true≢false (sym e)))

letter_ae : (header fault : Bool) → (letter header fault ≡ code "E") ↔ ((header ≡ false) × (fault ≡ true))
letter_ae true fault = (λ e. absurd (omega (arith, e)), λ e. absurd (true≢false e.0))
letter_ae false true = (λ e. (refl, refl), λ e. refl)
letter_ae false false = (λ e. absurd (omega (arith, e)), λ e. absurd (true≢false (sym e.1)))

letter_aa : (header fault : Bool) → (letter header fault ≡ code "A") ↔ ((header ≡ false) × (fault ≡ false))
letter_aa true fault = (λ e. absurd (omega (arith, e)), λ e. absurd (true≢false e.0))
letter_aa false true = (λ e. absurd (omega (arith, e)), λ e. absurd (true≢false e.1))
letter_aa false false = (λ e. (refl, refl), λ e. refl)

module _ (d : Delims) (may : Delimiting d) (msh stamp : List ℕ) (control : ℕ) (findings : List Finding) (head_clean : Clean msh) (stamp_clean : Clean stamp) (letters : has is_odd findings ≡ false) where
  -- MSA-1 of the ACK, as the bytes at segment 2, field 1
  abbrev pub msa1 : List ℕ
  msa1 = (place d (ack_bytes d msh stamp control findings) 2 1 1 0).bytes

  pub msa1-is : msa1 ≡ code "A" ∷ verdict findings ∷ []
  unfolding place nth_of cut_unless
  msa1-is =
      ap (λ (ps : List (List ℕ)). (in_segment d (part_at ps 1) 1 1 0).bytes) (ack-cut d may msh stamp control findings head_clean stamp_clean letters)
      ∙ msa1_read d may msh (has is_header findings) (has is_fault findings)

  second_is : (letter : ℕ) → (msa1 ≡ code "A" ∷ letter ∷ []) ↔ (verdict findings ≡ letter)
  second_is letter =
      (λ e. ap (λ (l : List ℕ). get_or l 1 0) (sym msa1-is ∙ e), λ e. msa1-is ∙ ap msa1_of e)

  -- AR exactly if a header code is among the findings
  pub ar_exactly : (msa1 ≡ bytes "AR") ↔ (has is_header findings ≡ true)
  ar_exactly = both (second_is (code "R")) (letter_ar (has is_header findings) (has is_fault findings))

  -- else AE if an E or W is among them
  pub ae_exactly : (msa1 ≡ bytes "AE") ↔ ((has is_header findings ≡ false) × (has is_fault findings ≡ true))
  ae_exactly = both (second_is (code "E")) (letter_ae (has is_header findings) (has is_fault findings))

  -- else AA
  pub aa_only : (msa1 ≡ bytes "AA") ↔ ((has is_header findings ≡ false) × (has is_fault findings ≡ false))
  aa_only = both (second_is (code "A")) (letter_aa (has is_header findings) (has is_fault findings))

  -- a finding about the header is an E: then it is AA exactly when no finding is E or W
  pub aa_exactly : (has is_header findings ≡ true → has is_fault findings ≡ true) → (msa1 ≡ bytes "AA") ↔ (has is_fault findings ≡ false)
  aa_exactly errors = both aa_only (λ e. e.1, of (has is_header findings) (has is_fault findings) errors)
    where
      of : (header fault : Bool) → (header ≡ true → fault ≡ true) → fault ≡ false → (header ≡ false) × (fault ≡ false)
      of true fault errors e = absurd (true≢false (sym (errors refl) ∙ e))
      of false fault errors e = (refl, e)
