-- To be believed. The value of decimal digits. Assumes nothing.
use Rattle.std.specs.Prelude.{ℕ, ◌+◌, ◌-◌, ◌*◌, List, [], ◌∷◌}

-- the value of digits that follow a number n, leading zeros allowed
unfoldable pub value_after : ℕ → List ℕ → ℕ
value_after n [] = n
value_after n (x ∷ digits) = value_after (10 * n + (x - 48)) digits

abbrev pub value_of : List ℕ → ℕ
value_of digits = value_after 0 digits
