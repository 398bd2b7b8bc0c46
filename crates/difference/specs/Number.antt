-- Inner: only contracts inside the crate use these names; nothing here has to be believed.
-- A number from 0 in the code, as the definitions have it. Assumes nothing.
use Rattle.std.specs.Prelude.{ℕ, suc, Option, Some, None}

-- they count from 1, and have 0 where there is none
abbrev pub number_or_0 : Option ℕ → ℕ
number_or_0 None = 0
number_or_0 (Some k) = suc k
