-- Inner: only contracts inside the crates use these names; nothing here has to be believed.
-- What a lent output holds after bytes were written into it. Assumes nothing.
use Rattle.std.specs.Prelude.{◌≡◌, List, [], ◌∷◌, ℕ, suc, ◌+◌, ◌^◌, ◌<◌, min, length, set}

-- `out` with `bytes` stored from index `at` on; a byte that would lie past the end is dropped
unfoldable pub splice : List ℕ → ℕ → List ℕ → List ℕ
splice out at [] = out
splice out at (b ∷ bytes) = splice (set out at b) (suc at) bytes

-- no index of an output reaches this one
abbrev pub limit : ℕ
limit = 2 ^ 63

-- `bytes` were written into `before` from `at` on, which made it `after`; the next free index is `next`, counted up to `limit`
pub record Wrote (before : List ℕ) (at : ℕ) (bytes after : List ℕ) (next : ℕ) : Type 0 where
  pub room : length before < limit
  pub holds : after ≡ splice before at bytes
  pub ends : next ≡ min (at + length bytes) limit
