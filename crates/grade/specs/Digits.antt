-- To be believed. Digits, signs and numbers in decimal. A value is the list of its bytes. Assumes nothing.
use Rattle.std.specs.Prelude.{ℕ, ◌+◌, ◌-◌, ◌*◌, Bool, cond, ◌||◌, List, [], ◌∷◌, eqb, get_or}
use Rattle.hl7.specs.Bytes.{within, is_digit}

-- '+' or '-'
abbrev pub is_sign : ℕ → Bool
is_sign b = eqb b 43 || eqb b 45

-- how many bytes of v are from low to high
unfoldable pub count_within : ℕ → ℕ → List ℕ → ℕ
count_within low high [] = 0
count_within low high (b ∷ v) = cond (within low high b) 1 0 + count_within low high v

-- how many digits v has, and how many points ('.')
abbrev pub digits_in : List ℕ → ℕ
digits_in v = count_within 48 57 v

abbrev pub points_in : List ℕ → ℕ
points_in v = count_within 46 46 v

-- how many digits v begins with
unfoldable pub digit_run : List ℕ → ℕ
digit_run [] = 0
digit_run (b ∷ v) = cond (is_digit b) (1 + digit_run v) 0

-- what the digit at a place stands for, and the two digits from there on; places count from 0
abbrev pub digit_at : ℕ → List ℕ → ℕ
digit_at at v = get_or v at 0 - 48

abbrev pub pair_at : ℕ → List ℕ → ℕ
pair_at at v = 10 * digit_at at v + digit_at (at + 1) v
