-- How many findings a message can have at most: one for each place that there is. Assumes nothing.
use Prim.Native.Nat.{ℕ, zero, suc, ◌+◌, ◌*◌, ◌≤◌}
use mathlib.Core.Path.{◌≡◌, refl, ap}
use mathlib.Core.Bool.{Bool, true, false, cond}
use mathlib.Core.List.{List, [], ◌∷◌}
use native.Mathlib.Omega.{arith}
use native.Mathlib.Nat.{le_trans, mul-le-mul_left, mul-le-mul_right}
use lib.ListN.{length, length-append, length-map}
use Rattle.hl7.specs.Cut.{cut}
use Rattle.hl7.specs.Place.{delims_of, segments_of, is_msh, field_of, never_cut, repetitions_of}
use Rattle.hl7.specs.declared.place.Delims.{Delims}
use Rattle.hl7.proofs.Cutting.{cut-few, part-short}
use Rattle.hl7.proofs.Placing.{field_short, whole-few}
use Rattle.hl7.proofs.Walking.{ended-few, ended-short}
use Rattle.grade.specs.Strict.{keep, count_from, pairs_from}
use Rattle.grade.specs.Findings.{values_of, breaks, turns, places, findings, rule_numbered, segment_at}
use Rattle.grade.specs.declared.rule.Rule.{Rule}

-- ---- the lists that places are made of
keep-few : {A : Type 0} (test : A → Bool) (l : List A) → length (keep test l) ≤ length l
unfolding keep
keep-few test [] = omega arith
keep-few {A} test (x ∷ l) = by (test x) (keep-few test l)
  where
    by : (b : Bool) → length (keep test l) ≤ length l → length (cond b (x ∷ keep test l) (keep test l)) ≤ suc (length l)
    by true ih = omega arith
    by false ih = omega arith

count-few : (n k : ℕ) → length (count_from n k) ≡ k
unfolding count_from
count-few n zero = refl
count-few n (suc k) = ap suc (count-few (suc n) k)

pairs_few : {A : Type 0} (n k b : ℕ) (f : ℕ → List A) → ((i : ℕ) → length (f i) ≤ b) → length (pairs_from n k f) ≤ k * b
unfolding pairs_from
pairs_few n zero b f h = omega arith
pairs_few {A} n (suc k) b f h =
    simp (length-append, length-map) (omega (arith, h n, pairs_few (suc n) k b f h))

-- ---- segments, fields, repetitions
pub values-few : (d : Delims) (rule : Rule) (seg : List ℕ) → length (values_of d rule seg) ≤ length seg + 1
unfolding repetitions_of
values-few d rule seg =
    simp length-map
    (omega (arith, whole-few (never_cut seg rule.place.field) d.tilde (field_of d seg rule.place.field).bytes, field_short (is_msh seg) d.bar seg rule.place.field))

module _ (o : ℕ → ℕ → Bool) (c : List Rule) (t : List (List (List ℕ))) (m : List ℕ) where
  turns-few : (n j : ℕ) → turns o c t m n j ≤ length m + 1
  turns-few n zero = omega arith
  turns-few n (suc i) =
      omega (arith, values-few (delims_of m) (rule_numbered o c t m i) (segment_at o c t m n), ended-short (cut 13 m) n, part-short 13 m n)

  places-few : length (places o c t m) ≤ suc (length (segments_of m)) * (suc (length c) * (length m + 1))
  places-few = pairs_few _ _ _ _ (λ n. pairs_few _ _ _ _ (λ j. omega (arith, count-few 0 (turns o c t m n j), turns-few n j)))

  -- a segment has its CR, a repetition after the first its tilde
  pub findings-within : length (findings o c t m) ≤ (length m + 1) * ((length c + 1) * (length m + 1))
  unfolding findings
  findings-within =
      let each : ℕ = suc (length c) * (length m + 1) in
      let segments : suc (length (segments_of m)) ≤ length m + 1 = omega (arith, ended-few (cut 13 m), cut-few 13 m) in
      let more : suc (length (segments_of m)) * each ≤ (length m + 1) * each = mul-le-mul_right each segments in
      let kept = keep-few (breaks o c t m) (places o c t m) in
      let rules : suc (length c) ≡ length c + 1 = omega arith in
      rw (length-map, ← rules) (omega (arith, places-few))

  -- so many for each byte
  pub findings-few : length m ≤ 32768 → length c ≤ 256 → length (findings o c t m) ≤ (length m + 1) * (257 * 32769)
  findings-few h k =
      let bytes : length m + 1 ≤ 32769 = omega arith in
      let rules : length c + 1 ≤ 257 = omega arith in
      le_trans findings-within (mul-le-mul_left (length m + 1) (le_trans (mul-le-mul_right (length m + 1) rules) (mul-le-mul_left 257 bytes)))
