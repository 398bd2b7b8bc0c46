-- What the bytes of a date, a time and a stamp are: a test that digits, signs and the point pass is passed by all of them. Assumes nothing.
use mathlib.Core.Path.{◌≡◌, refl, sym, ap, subst, ◌∙◌}
use mathlib.Core.Bool.{Bool, true, false, cond, ◌&&◌, ◌||◌}
use mathlib.Core.List.{List, [], ◌∷◌}
use Prim.Native.Nat.{ℕ, suc, ◌+◌}
use native.Mathlib.Omega.{arith}
use native.Mathlib.Numerals.{one-add}
use lib.Dec.{eqb, leb}
use lib.ListN.{length, get_or, take, drop, take-append-drop}
use lib.Seq.{take-length}
use borrow.Author.Tests.{eqb-true}
use Rattle.hl7.specs.Bytes.{is_digit, all}
use Rattle.hl7.proofs.Comparing.{and_both, none_of, all_append}
use Rattle.grade.specs.Digits.{is_sign, digit_run}
use Rattle.grade.specs.Values.{is_date, is_year_and_pairs, is_zone, is_zone_or_none, is_fraction, is_time, is_stamp}

module _ (test : ℕ → Bool) where
  as_passes : (x k : ℕ) → eqb x k ≡ true → test k ≡ true → test x ≡ true
  as_passes x k e p = rw (eqb-true x k e) p

  pub sign_passes : test 43 ≡ true → test 45 ≡ true → (x : ℕ) → is_sign x ≡ true → test x ≡ true
  sign_passes plus minus x e = by (eqb x 43) refl e
    where
      by : (b : Bool) → eqb x 43 ≡ b → (b || eqb x 45) ≡ true → test x ≡ true
      by true p e = as_passes x 43 p plus
      by false p e = as_passes x 45 e minus

  abbrev Passed : List ℕ → Type 0
  Passed v = all test v ≡ true

  module _ (digit : (x : ℕ) → is_digit x ≡ true → test x ≡ true) where
    run-all : (v : List ℕ) → Passed (take (digit_run v) v)
    unfolding digit_run all
    run-all [] = refl
    run-all (x ∷ v) = by (is_digit x) refl (run-all v)
      where
        by : (b : Bool) → is_digit x ≡ b → Passed (take (digit_run v) v) → Passed (take (cond b (1 + digit_run v) 0) (x ∷ v))
        by true e rest = rw (one-add (digit_run v)) (rw (digit x e) rest)
        by false e rest = refl

    whole-all : (v : List ℕ) → digit_run v ≡ length v → Passed v
    whole-all v e = subst Passed (ap (λ (n : ℕ). take n v) e ∙ take-length v) (run-all v)

    -- after the digits that it begins with
    after-all : (v : List ℕ) → Passed (drop (digit_run v) v) → Passed v
    after-all v e = subst Passed (take-append-drop (digit_run v) v) (all_append test (take (digit_run v) v) (drop (digit_run v) v) (run-all v) e)

    pub date_all : (v : List ℕ) → is_date v ≡ true → Passed v
    unfolding is_date
    date_all v e =
        let both = and_both _ _ (and_both _ _ e).0 in
        whole-all v (eqb-true (digit_run v) 8 both.1 ∙ sym (eqb-true (length v) 8 both.0))

    module _ (sign : (x : ℕ) → is_sign x ≡ true → test x ≡ true) (point : test 46 ≡ true) where
      zone_all : (v : List ℕ) → is_zone v ≡ true → Passed v
      unfolding is_zone all
      zone_all [] e = refl
      zone_all (x ∷ v) e =
          let zone = and_both _ _ (and_both _ _ (and_both _ _ e).0).0 in
          let signed = and_both _ _ zone.0 in
          let four : digit_run v ≡ length v = omega (arith, eqb-true (suc (length v)) 5 signed.0, eqb-true (digit_run v) 4 zone.1) in
          rw (sign x signed.1) (whole-all v four)

      ending_all : (v : List ℕ) → is_zone_or_none v ≡ true → Passed v
      unfolding is_zone_or_none all
      ending_all v e = by (eqb (length v) 0) refl e
        where
          by : (b : Bool) → eqb (length v) 0 ≡ b → (b || is_zone v) ≡ true → Passed v
          by true p e = rw (none_of v (omega (arith, eqb-true (length v) 0 p)))
          by false p e = zone_all v e

      fraction_all : (v : List ℕ) → is_fraction v ≡ true → Passed v
      unfolding is_fraction all
      fraction_all [] e = refl
      fraction_all (x ∷ v) e =
          let parts = and_both _ _ e in
          rw (as_passes x 46 (and_both _ _ parts.0).0 point) (after-all v (ending_all (drop (digit_run v) v) parts.1))

      pub time_all : (low : ℕ) (v : List ℕ) → is_time low v ≡ true → Passed v
      unfolding is_time
      time_all low v e = after-all v (by (is_zone_or_none (drop (digit_run v) v)) refl (and_both (leb low (digit_run v) && is_year_and_pairs (take (digit_run v) v)) _ e).1)
        where
          by : (b : Bool) → is_zone_or_none (drop (digit_run v) v) ≡ b → (b || (eqb (digit_run v) 14 && is_fraction (drop (digit_run v) v))) ≡ true → Passed (drop (digit_run v) v)
          by true p e = ending_all (drop (digit_run v) v) p
          by false p e = fraction_all (drop (digit_run v) v) (and_both (eqb (digit_run v) 14) (is_fraction (drop (digit_run v) v)) e).1

      pub stamp-all : (v : List ℕ) → is_stamp v ≡ true → Passed v
      unfolding is_stamp
      stamp-all v e = time_all 14 v (and_both (eqb (length v) 19 && eqb (digit_run v) 14 && is_sign (get_or v 14 0) && eqb (digit_run (drop 15 v)) 4) (is_time 14 v) e).1
