-- Two quotes are not a value: what counts as one, as the code asks it, and what two quotes break. Assumes nothing.
use mathlib.Core.Path.{◌≡◌, refl, sym, ◌∙◌}
use mathlib.Core.Bool.{Bool, true, false, cond, not, ◌&&◌, ◌||◌}
use mathlib.Core.List.{List, [], ◌∷◌}
use Prim.Native.Nat.{ℕ}
use native.Mathlib.Omega.{arith}
use borrow.Author.Tests.{ne_eqb, lt-ltb}
use lib.Dec.{eqb, ltb}
use lib.ListN.{length, get_or}
use Rattle.hl7.specs.Text.{bytes}
use Rattle.hl7.specs.Bytes.{same, among}
use Rattle.hl7.proofs.Comparing.{same_lengths}
use Rattle.grade.specs.Broken.{is_value, is_required, fits, broken, judges, codes_of, breaks_rule}
use Rattle.grade.specs.declared.rule.Rule.{Rule}

abbrev quotes : List ℕ
quotes = bytes "\"\""

-- ---- what counts as a value
-- of two bytes: one of them is not a quote
pub value_of_two : (v : List ℕ) → length v ≡ 2 → (not (eqb (get_or v 0 0) 34) || not (eqb (get_or v 1 0) 34)) ≡ is_value v
unfolding is_value among same
value_of_two [] e = absurd (omega (arith, e))
value_of_two (x ∷ []) e = absurd (omega (arith, e))
value_of_two (x ∷ (y ∷ [])) e = by (eqb x 34) (eqb y 34)
  where
    by : (a b : Bool) → (not a || not b) ≡ not (false || ((a && (b && true)) || false))
    by true true = refl
    by true false = refl
    by false b = refl
value_of_two (x ∷ (y ∷ (z ∷ v))) e = absurd (omega (arith, e))

-- of another number of bytes: there are some
pub value_of_others : (v : List ℕ) → (length v ≡ 2 → ⊥) → ltb 0 (length v) ≡ is_value v
unfolding is_value among same
value_of_others [] e = refl
value_of_others (x ∷ v) e = lt-ltb 0 (length (x ∷ v)) (omega arith) ∙ sym (rw (same_lengths (x ∷ v) quotes e))

-- ---- what two quotes break: REQUIRED, at the first repetition, and no other kind, whatever the codes
pub two_quotes : (sets : List (List (List ℕ))) (rule : Rule) (r : ℕ) → breaks_rule sets rule r quotes ≡ (is_required rule.kind && eqb r 0)
unfolding breaks_rule judges broken is_value among same
two_quotes sets rule r = by (is_required rule.kind) (eqb r 0)
  where
    by : (a b : Bool) → ((not a || b) && a) ≡ (a && b)
    by true true = refl
    by true false = refl
    by false b = refl

-- and anything else is judged by the scope's own words: where it is empty it breaks REQUIRED, where it is not the kinds that it does not fit
pub anything_else : (sets : List (List (List ℕ))) (rule : Rule) (r : ℕ) (v : List ℕ) → same v quotes ≡ false
    → breaks_rule sets rule r v ≡ (judges rule.kind r && cond (eqb (length v) 0) (is_required rule.kind) (not (fits rule.kind (codes_of sets rule.kind) v)))
unfolding breaks_rule broken is_value among same
anything_else sets rule r [] other = refl
anything_else sets rule r (x ∷ v) other = rw (ne_eqb (length (x ∷ v)) 0 (λ e. absurd (omega (arith, e))), other)
