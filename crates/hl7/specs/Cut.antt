-- To be believed. Cutting bytes at a delimiter, and where each part stands. Assumes nothing.
use Rattle.std.specs.Prelude.{ℕ, zero, suc, ◌+◌, Bool, true, false, List, [], ◌∷◌, length, get_or, drop, eqb}

-- the parts of x ∷ s from those of s: a delimiter starts a part of its own, any other byte joins the first
unfoldable pub ahead : Bool → ℕ → List (List ℕ) → List (List ℕ)
ahead true x ps = [] ∷ ps
ahead false x ps = (x ∷ get_or ps 0 []) ∷ drop 1 ps

-- s cut at each d: one part more than it has d's, and the d's in no part
unfoldable pub cut : ℕ → List ℕ → List (List ℕ)
cut d [] = [] ∷ []
cut d (x ∷ s) = ahead (eqb x d) x (cut d s)

-- part k of ps, from 0, and empty where there is none
abbrev pub part_at : List (List ℕ) → ℕ → List ℕ
part_at ps k = get_or ps k []

-- where the part that begins at `from` ends: at the first d there, or at the end of s
abbrev pub end_from : ℕ → List ℕ → ℕ → ℕ
end_from d s from = from + length (part_at (cut d (drop from s)) 0)

-- where part k begins in the bytes that ps were cut from; a missing one stands at their end
unfoldable pub start_at : List (List ℕ) → ℕ → ℕ
start_at [] k = 0
start_at (p ∷ ps) zero = 0
start_at (p ∷ []) (suc k) = length p
start_at (p ∷ (q ∷ ps)) (suc k) = length p + 1 + start_at (q ∷ ps) k

-- a piece of some bytes: where it starts there, and what it holds
pub record Piece : Type 0 where
  pub start : ℕ
  pub bytes : List ℕ

abbrev pub piece_at : List (List ℕ) → ℕ → Piece
piece_at ps k = record { start = start_at ps k; bytes = part_at ps k }

-- what is missing is empty, at the end of what it would be in
abbrev pub missing : List ℕ → Piece
missing s = record { start = length s; bytes = [] }

-- all parts but the last: those that run to a delimiter
unfoldable pub but_last : List (List ℕ) → List (List ℕ)
but_last [] = []
but_last (p ∷ []) = []
but_last (p ∷ (q ∷ ps)) = p ∷ but_last (q ∷ ps)
