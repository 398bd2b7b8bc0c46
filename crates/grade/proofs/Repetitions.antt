-- One repetition more of a rule's field, found by where it begins and ends. Assumes nothing.
use Prim.Native.Nat.{ℕ, suc, ◌+◌, ◌-◌, ◌≤◌, ◌<◌}
use mathlib.Core.Path.{◌≡◌, refl, ap, ◌∙◌}
use mathlib.Core.Bool.{Bool, true, false, cond}
use mathlib.Core.List.{List, [], ◌∷◌, map}
use native.Mathlib.Numerals.{add-one}
use native.Mathlib.Omega.{arith}
use borrow.Author.Tests.{ne_eqb}
use lib.ListN.{length, take, drop}
use Rattle.hl7.specs.Spans.{parts_from}
use Rattle.hl7.specs.Cut.{end_from}
use Rattle.hl7.specs.declared.place.Delims.{Delims}
use Rattle.hl7.proofs.Walking.{parts_step, parts_done}
use Rattle.grade.specs.Broken.{is_required, judges}
use Rattle.grade.specs.Findings.{value_in}
use Rattle.grade.specs.Rest.{breaks_by, broken_values, broken_from}
use Rattle.grade.specs.declared.rule.Rule.{Rule}

module _ (d : Delims) (fld b : List ℕ) (rule : Rule) (codes : ℕ) where
  abbrev rest : ℕ → ℕ → List ℕ
  rest at passed = broken_from d fld b rule codes at passed

  -- REQUIRED is broken at the first repetition or at none
  required_once : (passed : ℕ) (values : List (List ℕ)) → is_required rule.kind ≡ true → broken_values (breaks_by b rule codes) (suc passed) values ≡ []
  unfolding broken_values judges
  required_once passed [] e = refl
  required_once passed (v ∷ vs) e = rw (e, ne_eqb (suc passed) 0 (λ q. absurd (omega arith))) (required_once (suc passed) vs e)

  module _ (passed : ℕ) {at end : ℕ} (inside : at ≤ length fld) (ends : end ≡ end_from d.tilde fld at) where
    -- the test of the repetition, as the code makes it
    abbrev test : Bool
    test = breaks_by b rule codes passed (value_in d false rule (take (end - at) (drop at fld)))

    step : rest at passed ≡ cond test (suc passed ∷ rest (end + 1) (suc passed)) (rest (end + 1) (suc passed))
    unfolding broken_values
    step =
        let parts : parts_from d.tilde fld at ≡ take (end - at) (drop at fld) ∷ parts_from d.tilde fld (end + 1) = rw ends (parts_step d.tilde fld at inside) in
        ap (λ (reps : List (List ℕ)). broken_values (breaks_by b rule codes) passed (map (value_in d false rule) reps)) parts

    pub value-broken : test ≡ true → rest at passed ≡ (passed + 1) ∷ rest (end + 1) (passed + 1)
    value-broken e = step ∙ rw (e, add-one passed)

    pub value-fine : test ≡ false → rest at passed ≡ rest (end + 1) (passed + 1)
    value-fine e = step ∙ rw (e, add-one passed)

    pub value_last : test ≡ false → is_required rule.kind ≡ true → rest at passed ≡ []
    value_last e once = step ∙ rw e (required_once passed (map (value_in d false rule) (parts_from d.tilde fld (end + 1))) once)

  pub values-over : (passed at : ℕ) → length fld < at → rest at passed ≡ []
  unfolding broken_values
  values-over passed at h = ap (λ (reps : List (List ℕ)). broken_values (breaks_by b rule codes) passed (map (value_in d false rule) reps)) (parts_done d.tilde fld at h)
