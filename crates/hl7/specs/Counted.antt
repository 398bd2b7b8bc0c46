-- Inner: only contracts inside the crates use these names; nothing here has to be believed.
-- A value that is counted up to a limit, digit by digit. Assumes nothing.
use Rattle.std.specs.Prelude.{ℕ, ◌+◌, ◌-◌, ◌*◌, min}

-- values are told apart up to here: 2 ^ 32
abbrev pub too_large : ℕ
too_large = 4294967296

-- a value with one digit more
abbrev pub with_digit : ℕ → ℕ → ℕ
with_digit value digit = min (10 * min value too_large + (digit - 48)) too_large
