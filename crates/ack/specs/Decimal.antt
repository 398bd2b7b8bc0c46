-- To be believed. A number in decimal notation. Assumes nothing.
use Rattle.std.specs.Prelude.{ℕ, zero, suc, ◌+◌, ◌/◌, ◌%◌, cond, List, [], ◌∷◌, ◌++◌, ltb}

-- the ASCII code of a digit below 10
abbrev pub digit : ℕ → ℕ
digit d = 48 + d

-- the last k digits of n, the most significant first, without leading zeros
unfoldable pub last_digits : ℕ → ℕ → List ℕ
last_digits zero n = []
last_digits (suc k) n = cond (ltb n 10) (digit n ∷ []) (last_digits k (n / 10) ++ (digit (n % 10) ∷ []))

-- a number of at most 64 bits has at most twenty digits
unfoldable pub decimal : ℕ → List ℕ
decimal n = last_digits 20 n
