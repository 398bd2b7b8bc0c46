-- Laws of sets: their bytes, set by set; and rows 52 and 53. Assumes nothing.
use mathlib.Core.Path.{◌≡◌, refl, sym, ap, ap₂, subst, ◌∙◌}
use mathlib.Core.Bool.{Bool, true, false, cond, not, ◌&&◌, ◌||◌, true≢false, not-not}
use mathlib.Core.List.{List, [], ◌∷◌, ◌++◌, map}
use Prim.Native.Nat.{ℕ, ◌+◌, ◌≤◌, ◌<◌, min}
use native.Mathlib.Omega.{arith}
use lib.Dec.{eqb, leb, ltb}
use lib.ListN.{length, get_or, drop}
use borrow.Author.Tests.{leb-true, le-leb, le-ltb, ltb-false}
use Rattle.std.specs.Prelude.{Result, Ok}
use Rattle.hl7.specs.Bytes.{within, among}
use Rattle.hl7.proofs.Comparing.{and_both, or_neither, none_of}
use Rattle.grade.specs.Limits.{code_count_limit}
use Rattle.grade.specs.Encoding.{spell_all, set_bytes, two_bytes_of}
use Rattle.ack.specs.Splice.{Wrote}
use Rattle.ack.proofs.Writing.{wrote_as, wrote-length, ◌then◌}
use Rattle.booktext.specs.Lines.{Statement, statements, line_of, word, verb, of_codes, a_set, number_from}
use Rattle.booktext.specs.Meaning.{from}
use Rattle.booktext.specs.Contents.{held}
use Rattle.booktext.specs.Faults.{Told, tell, nothing}
use Rattle.booktext.specs.Refusals.{first_stray, first_bad_set, at_of}
use Rattle.booktext.specs.Standing.{words_from, span_bytes, next_line, left, Finds, names_in, no_span, noted, no_cell, Marked, Spelt, told_in, end_in, Puts}
use Rattle.booktext.specs.Cells.{Cell}
use Rattle.booktext.specs.declared.names.Names.{Names}
use Rattle.booktext.specs.declared.told.Fault.{Fault}
use Rattle.booktext.specs.declared.sets.Run.{Run}
use Rattle.booktext.proofs.Naming.{names_left, names_step, names-past, number-among}
use Rattle.booktext.proofs.Marking.{noted-at, noted-first, cells_step, cells_done}
use Rattle.booktext.proofs.Completing.{Completes, completes_more, completes_over}
use Rattle.booktext.proofs.Referring.{at-found}
use Rattle.booktext.proofs.Spelling.{spelt-length}

-- ---- row 53
module _ (t : List ℕ) (line : ℕ) (all ss : List Statement) (name : List ℕ) (names : List (List ℕ)) where
  bad_is : (b : Bool) → within 1 code_count_limit (length (held all ss name)) ≡ b → first_bad_set t line all ss (name ∷ names) ≡ cond b (first_bad_set t line all ss names) (tell 53 (line_of t (at_of (from a_set name all))) line)
  unfolding first_bad_set
  bad_is b e = ap (λ (x : Bool). cond x (first_bad_set t line all ss names) (tell 53 (line_of t (at_of (from a_set name all))) line)) e

-- the codes' count as the code tests it, up to 1,025
size_wrong : (n : ℕ) {count : ℕ} → count ≡ min n 1025 → (ltb count 1 || ltb code_count_limit count) ≡ true → within 1 code_count_limit n ≡ false
size_wrong n {count} e f = by_case (within 1 code_count_limit n) refl
  where
    by_case : (b : Bool) → within 1 code_count_limit n ≡ b → b ≡ false
    by_case false g = refl
    by_case true g =
        let fits = and_both (leb 1 n) (leb n code_count_limit) g in
        let low : 1 ≤ n = leb-true 1 n fits.0 in
        let high : n ≤ code_count_limit = leb-true n code_count_limit fits.1 in
        absurd (true≢false (sym f ∙ ap₂ ◌||◌ (le-ltb count 1 (omega (arith, e, low))) (le-ltb code_count_limit count (omega (arith, e, high)))))

module _ {count : ℕ} (f : (ltb count 1 || ltb code_count_limit count) ≡ false) where
  count_fits : (1 ≤ count) × (count ≤ code_count_limit)
  count_fits = let n = or_neither (ltb count 1) (ltb code_count_limit count) f in (ltb-false count 1 n.0, ltb-false code_count_limit count n.1)

  pub count_small : count < 65536
  count_small = omega (arith, count_fits.1)

  count-exact : (n : ℕ) → count ≡ min n 1025 → count ≡ n
  count-exact n e = omega (arith, e, count_fits.1)

  size_right : (n : ℕ) → count ≡ min n 1025 → within 1 code_count_limit n ≡ true
  size_right n e = ap₂ ◌&&◌ (le-leb 1 n (omega (arith, e, count_fits.0))) (le-leb n code_count_limit (omega (arith, e, count_fits.1)))

-- ---- the set with a name
-- a row refuses, whatever was written
pub puts_refused : {want : Told} {bytes o after : List ℕ} {at : ℕ} {r : Result ℕ Fault} → told_in r ≡ want → (want.number ≡ 0 → ⊥) → length after ≡ length o → Puts want bytes o at after r
puts_refused e h same = record { tells = e; wrote = λ z. absurd (h (ap (λ (x : Told). x.number) (sym e) ∙ z)); length = same }

-- its codes were written onto no byte, which counted them
module _ (t name : List ℕ) (ss : List Statement) (out : List ℕ) {p : List ℕ} {first : Run} (s : Spelt (held (statements t) ss name) [] (record { at = 0; count = 0 }) p first) where
  nothing_written : p ++ out ≡ out
  nothing_written = ap (λ (l : List ℕ). l ++ out) (none_of p (omega (arith, spelt-length s)))

  sized : first.count ≡ min (length (held (statements t) ss name)) 1025
  sized = omega (arith, s.counted)

  -- it has too few or too many
  pub set_wrong : {line : ℕ} → Finds t (from a_set name (statements t)) (left t (next_line t line)) line → (head : ℕ) → (ltb first.count 1 || ltb code_count_limit first.count) ≡ true
      → {r : Result ℕ Fault} {x a b : ℕ} (at : ℕ) → x ≡ cond (leb line (length t)) line 0 → a ≡ line_of t x → b ≡ line_of t head → told_in r ≡ tell 53 a b
      → Puts (first_bad_set t (line_of t head) (statements t) ss (name ∷ [])) (set_bytes (held (statements t) ss name)) out at (p ++ out) r
  set_wrong f head w {a = a} {b} at g k l e =
      let want : tell 53 a b ≡ first_bad_set t (line_of t head) (statements t) ss (name ∷ []) =
      ap₂ (tell 53) (k ∙ ap (line_of t) (at-found t f g)) l ∙ sym (bad_is t (line_of t head) (statements t) ss name [] false (size_wrong _ sized w)) in
      puts_refused (e ∙ want) (λ z. absurd (omega (arith, ap (λ (x : Told). x.number) want ∙ z))) (ap length nothing_written)

  -- its bytes were put
  pub set_put : (head : ℕ) → (ltb first.count 1 || ltb code_count_limit first.count) ≡ false → {second after : List ℕ} {at next : ℕ} {r : Run}
      → Wrote (p ++ out) at (two_bytes_of first.count) second next → Spelt (held (statements t) ss name) second (record { at = next; count = 0 }) after r
      → Puts (first_bad_set t (line_of t head) (statements t) ss (name ∷ [])) (set_bytes (held (statements t) ss name)) out at after (Ok r.at)
  unfolding first_bad_set
  set_put head w {second = second} {after} {at} {next} {r} u v =
      let count : Wrote out at (two_bytes_of (length (held (statements t) ss name))) second next =
      wrote_as (subst (λ (l : List ℕ). Wrote l at (two_bytes_of first.count) second next) nothing_written u) (ap two_bytes_of (count-exact w _ sized)) in
      let whole : Wrote out at (set_bytes (held (statements t) ss name)) after r.at = count then v.wrote in
      record {
        tells = sym (bad_is t (line_of t head) (statements t) ss name [] true (size_right w _ sized));
        wrote = λ z. whole;
        length = wrote-length whole;
      }

-- ---- the sets with the names
-- the names from number i on
abbrev pub names_from : List ℕ → Names → ℕ → List (List ℕ)
names_from t names i = names_left t names.spans names.count i

module _ (t : List ℕ) (names : Names) (i : ℕ) where
  pub names_more : i < names.count → names.count ≤ length names.spans → {name : List ℕ} → name ≡ span_bytes t (get_or names.spans i no_span) → names_from t names i ≡ name ∷ names_from t names (i + 1)
  names_more h few e = names_step t names.spans names.count i h few ∙ ap (λ (w : List ℕ). w ∷ names_from t names (i + 1)) (sym e)

  pub names-over : names.count ≤ i → names_from t names i ≡ []
  names-over h = names-past t names.spans names.count i h

-- the first bad set of all is the first bad one of those that are left, and whoever puts these has put all
abbrev pub SetsLeft : (t : List ℕ) → ℕ → List Statement → (names more : List (List ℕ)) → (o : List ℕ) → ℕ → (out : List ℕ) → ℕ → Type 0
SetsLeft t head ss names more o at out to =
    (length out ≡ length o)
    × (first_bad_set t (line_of t head) (statements t) ss names ≡ first_bad_set t (line_of t head) (statements t) ss more)
    × Completes (spell_all set_bytes (map (held (statements t) ss) names)) (spell_all set_bytes (map (held (statements t) ss) more)) o at out to

pub sets-start : (t : List ℕ) (head : ℕ) (ss : List Statement) (names : Names) (o : List ℕ) (at : ℕ) → SetsLeft t head ss (names_in t names) (names_from t names 0) o at o at
unfolding names_in
sets-start t head ss names o at = (refl, refl, λ after r w. w)

module _ (t : List ℕ) (head : ℕ) (ss : List Statement) (names more : List (List ℕ)) {o out : List ℕ} {at to : ℕ} (inv : SetsLeft t head ss names more o at out to) where
  -- the next one
  module _ {name : List ℕ} {others : List (List ℕ)} (e : more ≡ name ∷ others) {next : List ℕ} {one : Result ℕ Fault} (p : Puts (first_bad_set t (line_of t head) (statements t) ss (name ∷ [])) (set_bytes (held (statements t) ss name)) out to next one) where
    pub sets-refused : ((told_in one).number ≡ 0 → ⊥) → Puts (first_bad_set t (line_of t head) (statements t) ss names) (spell_all set_bytes (map (held (statements t) ss) names)) o at next one
    unfolding first_bad_set
    sets-refused h = record { tells = by_case (within 1 code_count_limit (length (held (statements t) ss name))) refl; wrote = λ z. absurd (h z); length = p.length ∙ inv.0 }
      where
        by_case : (b : Bool) → within 1 code_count_limit (length (held (statements t) ss name)) ≡ b → told_in one ≡ first_bad_set t (line_of t head) (statements t) ss names
        by_case true f = absurd (h (ap (λ (x : Told). x.number) (p.tells ∙ bad_is t (line_of t head) (statements t) ss name [] true f)))
        by_case false f =
            p.tells
            ∙ bad_is t (line_of t head) (statements t) ss name [] false f
            ∙ sym (inv.1 ∙ ap (first_bad_set t (line_of t head) (statements t) ss) e ∙ bad_is t (line_of t head) (statements t) ss name others false f)

    pub sets_again : (told_in one).number ≡ 0 → SetsLeft t head ss names others o at next (end_in one)
    sets_again h = (
      p.length ∙ inv.0,
      inv.1 ∙ ap (first_bad_set t (line_of t head) (statements t) ss) e ∙ by_case (within 1 code_count_limit (length (held (statements t) ss name))) refl,
      completes_more inv.2 (ap (λ (l : List (List ℕ)). spell_all set_bytes (map (held (statements t) ss) l)) e) (p.wrote h),
    )
      where
        by_case : (b : Bool) → within 1 code_count_limit (length (held (statements t) ss name)) ≡ b → first_bad_set t (line_of t head) (statements t) ss (name ∷ others) ≡ first_bad_set t (line_of t head) (statements t) ss others
        by_case true f = bad_is t (line_of t head) (statements t) ss name others true f
        by_case false f = absurd (omega (arith, h, ap (λ (x : Told). x.number) (p.tells ∙ bad_is t (line_of t head) (statements t) ss name [] false f)))

  pub sets_over : more ≡ [] → {after : List ℕ} {r : ℕ} → Wrote out to [] after r → Puts (first_bad_set t (line_of t head) (statements t) ss names) (spell_all set_bytes (map (held (statements t) ss) names)) o at after (Ok r)
  unfolding first_bad_set
  sets_over e w =
      record {
        tells = sym (inv.1 ∙ ap (first_bad_set t (line_of t head) (statements t) ss) e);
        wrote = λ z. completes_over inv.2 (ap (λ (l : List (List ℕ)). spell_all set_bytes (map (held (statements t) ss) l)) e) w;
        length = wrote-length w ∙ inv.0;
      }

-- ---- row 52
-- a change of a set, by its name's number among those that the section holds
module _ (t : List ℕ) (names : Names) (cell : Cell) (m : Marked t cell) {b : Bool} (f : b ≡ of_codes cell.verb) where
  stray_is : {c : Bool} → b ≡ c → (of_codes (verb (noted t cell)) && not (among (word (noted t cell) 1) (names_in t names))) ≡ (c && not (among (word (noted t cell) 1) (names_in t names)))
  stray_is g = ap (λ (x : Bool). x && not (among (word (noted t cell) 1) (names_in t names))) (ap of_codes (sym m.by_verb) ∙ sym f ∙ g)

  pub stray_by_number : b ≡ true → {n : ℕ} {w : List ℕ} → w ≡ get_or (words_from t cell.line) 1 [] → (n ≡ number_from 1 w (names_in t names)) × (n ≤ 64)
      → eqb n 0 ≡ (of_codes (verb (noted t cell)) && not (among (word (noted t cell) 1) (names_in t names)))
  stray_by_number g {n} {w = w} k q =
      sym (not-not (eqb n 0))
      ∙ ap (λ (x : ℕ). not (not (eqb x 0))) q.0
      ∙ ap not (sym (number-among 0 w (names_in t names)))
      ∙ ap (λ (x : List ℕ). not (among x (names_in t names))) (k ∙ sym (noted-first t cell))
      ∙ sym (stray_is g)

  pub stray_none : b ≡ false → false ≡ (of_codes (verb (noted t cell)) && not (among (word (noted t cell) 1) (names_in t names)))
  stray_none g = sym (stray_is g)

-- the first one: by those that are left
module _ (t : List ℕ) (names : List (List ℕ)) (line : ℕ) (cells : List Cell) (i : ℕ) (inv : first_stray t line names (map (noted t) cells) ≡ first_stray t line names (map (noted t) (drop i cells))) where
  module _ (h : i < length cells) {b : Bool} (e : b ≡ (of_codes (verb (noted t (get_or cells i no_cell))) && not (among (word (noted t (get_or cells i no_cell)) 1) names))) where
    stray_first : {c : Bool} → b ≡ c → first_stray t line names (map (noted t) cells) ≡ cond c (tell 52 (line_of t (noted t (get_or cells i no_cell)).at) line) (first_stray t line names (map (noted t) (drop (i + 1) cells)))
    unfolding first_stray
    stray_first f =
        inv
        ∙ ap (first_stray t line names) (cells_step (noted t) cells i h)
        ∙ ap (λ (x : Bool). cond x (tell 52 (line_of t (noted t (get_or cells i no_cell)).at) line) (first_stray t line names (map (noted t) (drop (i + 1) cells)))) (sym e ∙ f)

    pub stray_here : b ≡ true → {told : Told} {a c : ℕ} → a ≡ line_of t (get_or cells i no_cell).line → c ≡ line → told ≡ tell 52 a c → told ≡ first_stray t line names (map (noted t) cells)
    stray_here f g k q = q ∙ ap₂ (tell 52) (g ∙ ap (line_of t) (sym (noted-at t (get_or cells i no_cell)))) k ∙ sym (stray_first f)

    pub stray_later : b ≡ false → first_stray t line names (map (noted t) cells) ≡ first_stray t line names (map (noted t) (drop (i + 1) cells))
    stray_later f = stray_first f

  pub stray_over : length cells ≤ i → nothing ≡ first_stray t line names (map (noted t) cells)
  unfolding first_stray
  stray_over h = sym (inv ∙ ap (first_stray t line names) (cells_done (noted t) cells i h))
