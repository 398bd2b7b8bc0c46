-- A month's length by rule is its length by the list of twelve, for the months 0 to 13 of every year, leap or common: antt computes both.
-- Assumes nothing.
use Prim.Native.Nat.{ℕ}
use mathlib.Core.Path.{◌≡◌, refl}
use mathlib.Core.Bool.{cond, ◌&&◌}
use mathlib.Core.List.{List, [], ◌∷◌, map}
use lib.Dec.{eqb}
use lib.ListN.{get_or}
use Rattle.grade.specs.Calendar.{is_leap, month_length}

-- the months 1 to 12 of a common year, after a month 0, which there is not
abbrev common_lengths : List ℕ
common_lengths = 0 ∷ 31 ∷ 28 ∷ 31 ∷ 30 ∷ 31 ∷ 30 ∷ 31 ∷ 31 ∷ 30 ∷ 31 ∷ 30 ∷ 31 ∷ []

abbrev listed_length : ℕ → ℕ → ℕ
listed_length year month = cond (eqb month 2 && is_leap year) 29 (get_or common_lengths month 0)

abbrev months : List ℕ
months = 0 ∷ 1 ∷ 2 ∷ 3 ∷ 4 ∷ 5 ∷ 6 ∷ 7 ∷ 8 ∷ 9 ∷ 10 ∷ 11 ∷ 12 ∷ 13 ∷ []

pub lengths_listed : (year : ℕ) → map (month_length year) months ≡ map (listed_length year) months
unfolding month_length
lengths_listed year = refl
