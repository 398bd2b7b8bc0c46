-- Inner: only contracts inside the crates use these names; nothing here has to be believed.
-- Where a piece stands in some bytes, by its start and its end, and the parts of a cut from a position on. Assumes nothing.
use Rattle.std.specs.Prelude.{ℕ, ◌+◌, ◌-◌, ◌≤◌, ◌≡◌, cond, List, [], ◌∷◌, eqb, leb, length, take, drop}
use Rattle.hl7.specs.declared.cut.Span.{Span}
use Rattle.hl7.specs.Cut.{cut, part_at, start_at, Piece}

-- the bytes of s from start to end: what `&s[start..end]` holds
abbrev pub between : List ℕ → ℕ → ℕ → List ℕ
between s start end = take (end - start) (drop start s)

-- piece k of what begins at `at`, as a piece of s
abbrev pub piece_from : ℕ → List ℕ → ℕ → ℕ → Piece
piece_from d s at k = record { start = at + start_at (cut d (drop at s)) k; bytes = part_at (cut d (drop at s)) k }

-- how many bytes of s are d
unfoldable pub occurrences : ℕ → List ℕ → ℕ
occurrences d [] = 0
occurrences d (x ∷ s) = cond (eqb x d) 1 0 + occurrences d s

-- r says where the piece p stands in s
pub record Spans (s : List ℕ) (p : Piece) (r : Span) : Type 0 where
  pub start : r.start ≡ p.start
  pub bytes : between s r.start r.end ≡ p.bytes
  pub forward : r.start ≤ r.end
  pub inside : r.end ≤ length s

-- the parts that begin at `at` or later, a part beginning there; past the end there is none
unfoldable pub parts_from : ℕ → List ℕ → ℕ → List (List ℕ)
parts_from d s at = cond (leb at (length s)) (cut d (drop at s)) []
