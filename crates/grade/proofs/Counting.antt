-- Laws of counts and runs, each in the words of a loop that goes along the bytes by index. Assumes nothing.
use mathlib.Core.Path.{◌≡◌, refl, sym, ap, ◌∙◌}
use mathlib.Core.Bool.{Bool, true, false, cond, ◌&&◌, ◌||◌}
use mathlib.Core.List.{List, [], ◌∷◌}
use Prim.Native.Nat.{ℕ, ◌+◌, ◌≤◌, ◌<◌}
use native.Mathlib.Omega.{arith}
use lib.Dec.{leb, ltb, eqb}
use lib.ListN.{length, get_or, drop, length-drop, drop_of_length-le}
use borrow.Author.Tests.{leb-true, leb-false, lt-ltb, le-ltb, eqb-true, eqb-false, eq-eqb, ne_eqb}
use Rattle.hl7.specs.Bytes.{within, is_digit}
use Rattle.hl7.proofs.Comparing.{rest_at, and_both}
use Rattle.grade.specs.Digits.{count_within, digits_in, points_in, digit_run}
use Rattle.grade.specs.Values.{is_unsigned}

module _ (v : List ℕ) (i : ℕ) where
  count_more : (low high : ℕ) → i < length v → count_within low high (drop i v) ≡ cond (within low high (get_or v i 0)) 1 0 + count_within low high (drop (i + 1) v)
  unfolding count_within
  count_more low high h = ap (count_within low high) (rest_at v i h)

  count_none : (low high : ℕ) → length v ≤ i → count_within low high (drop i v) ≡ 0
  unfolding count_within
  count_none low high h = ap (count_within low high) (drop_of_length-le v h)

  pub run_more : i < length v → is_digit (get_or v i 0) ≡ true → digit_run (drop i v) ≡ 1 + digit_run (drop (i + 1) v)
  unfolding digit_run
  run_more h t = ap digit_run (rest_at v i h) ∙ rw t

  pub run_stop : i < length v → is_digit (get_or v i 0) ≡ false → digit_run (drop i v) ≡ 0
  unfolding digit_run
  run_stop h t = ap digit_run (rest_at v i h) ∙ rw t

  pub run_none : length v ≤ i → digit_run (drop i v) ≡ 0
  unfolding digit_run
  run_none h = ap digit_run (drop_of_length-le v h)

-- ---- digits and points
-- what counts as a point is the byte '.'
point_is : (b : ℕ) → within 46 46 b ≡ eqb b 46
point_is b = go (eqb b 46) (within 46 46 b) refl refl
  where
    go : (e t : Bool) → eqb b 46 ≡ e → within 46 46 b ≡ t → within 46 46 b ≡ eqb b 46
    go true t e h = rw (eqb-true b 46 e) refl
    go false false e h = h ∙ sym e
    go false true e h =
        let both = and_both (leb 46 b) (leb b 46) h in
        let low = leb-true 46 b both.0 in
        let high = leb-true b 46 both.1 in
        absurd (eqb-false b 46 e (omega arith))

-- no byte counts as both
one_kind : (b : ℕ) → cond (is_digit b) 1 0 + cond (within 46 46 b) 1 0 ≡ cond (is_digit b || eqb b 46) 1 0
one_kind b = go (eqb b 46) (is_digit b) refl refl
  where
    go : (e d : Bool) → eqb b 46 ≡ e → is_digit b ≡ d → cond (is_digit b) 1 0 + cond (within 46 46 b) 1 0 ≡ cond (is_digit b || eqb b 46) 1 0
    go true d e h = rw (eqb-true b 46 e) refl
    go false true e h = rw (point_is b, e, h) refl
    go false false e h = rw (point_is b, e, h) refl

cond_small : (t : Bool) → cond t 1 0 ≤ 1
cond_small true = omega arith
cond_small false = omega arith

abbrev both_in : List ℕ → ℕ
both_in v = digits_in v + points_in v

-- so there are no more of both than bytes
both_within : (v : List ℕ) → both_in v ≤ length v
unfolding count_within
both_within [] = omega arith
both_within (b ∷ v) = omega (arith, one_kind b, cond_small (is_digit b || eqb b 46), both_within v)

-- what a loop along v knows at i: all bytes before it are digits and points, so many of them points
abbrev pub Passed : (v : List ℕ) (points i : ℕ) → Type 0
Passed v points i = (i ≤ length v) × (points ≤ i) × (points_in v ≡ points + points_in (drop i v)) × (both_in v ≡ i + both_in (drop i v))

module _ (v : List ℕ) (points i : ℕ) (passed : Passed v points i) where
  abbrev fine : Bool
  fine = is_digit (get_or v i 0) || eqb (get_or v i 0) 46

  both_more : i < length v → both_in (drop i v) ≡ cond fine 1 0 + both_in (drop (i + 1) v)
  both_more h = omega (arith, count_more v i 48 57 h, count_more v i 46 46 h, one_kind (get_or v i 0))

  pub passed_more : (one : ℕ) → one ≡ cond (eqb (get_or v i 0) 46) 1 0 → i < length v → fine ≡ true → Passed v (points + one) (i + 1)
  passed_more one e h t =
      let same : one ≡ cond (within 46 46 (get_or v i 0)) 1 0 = rw (point_is (get_or v i 0)) e in
      let more : both_in (drop i v) ≡ 1 + both_in (drop (i + 1) v) = both_more h ∙ rw t in
      omega (arith, same, more, count_more v i 46 46 h, cond_small (within 46 46 (get_or v i 0)))

  pub passed_stop : i < length v → fine ≡ false → false ≡ is_unsigned v
  unfolding is_unsigned
  passed_stop h t =
      let more : both_in (drop i v) ≡ 0 + both_in (drop (i + 1) v) = both_more h ∙ rw t in
      let short : eqb (both_in v) (length v) ≡ false = ne_eqb (both_in v) (length v) (λ e. omega (arith, e, more, both_within (drop (i + 1) v), length-drop (i + 1) v)) in
      rw short refl

  pub passed_over : length v ≤ i → (leb points 1 && ltb points (length v)) ≡ is_unsigned v
  unfolding is_unsigned
  passed_over h =
      let digits = count_none v i 48 57 h in
      let none = count_none v i 46 46 h in
      let whole : eqb (both_in v) (length v) ≡ true = eq-eqb (both_in v) (length v) (omega (arith, digits, none)) in
      let all : points_in v ≡ points = omega (arith, none) in
      rw (whole, all) (ap (λ (t : Bool). leb points 1 && t) (go (leb 1 (digits_in v)) refl (omega (arith, digits, none))))
    where
      go : (t : Bool) → leb 1 (digits_in v) ≡ t → digits_in v + points ≡ length v → ltb points (length v) ≡ leb 1 (digits_in v)
      go true e sum = let some = leb-true 1 (digits_in v) e in lt-ltb points (length v) (omega arith) ∙ sym e
      go false e sum = let none = leb-false 1 (digits_in v) e in le-ltb points (length v) (omega arith) ∙ sym e
