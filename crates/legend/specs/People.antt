-- To be believed. The words for people of a line. Assumes nothing.
use Rattle.std.specs.Prelude.{ℕ, suc, cond, List, [], ◌∷◌, length, drop}
use Rattle.hl7.specs.Bytes.{all}
use Rattle.hl7.specs.Cut.{cut, part_at}
use Rattle.booktext.specs.Lines.{line_feed, said, blank}

-- without the blanks that it begins with
unfoldable pub unled : List ℕ → List ℕ
unled [] = []
unled (x ∷ s) = cond (blank x) (unled s) (x ∷ s)

-- without those that it ends with
unfoldable pub untrailed : List ℕ → List ℕ
untrailed [] = []
untrailed (x ∷ s) = cond (all blank (x ∷ s)) [] (x ∷ untrailed s)

abbrev pub trimmed : List ℕ → List ℕ
trimmed s = untrailed (unled s)

-- the line that begins at a position
abbrev pub line_at : List ℕ → ℕ → List ℕ
line_at t at = part_at (cut line_feed (drop at t)) 0

-- what follows the first bar of a line, without the blanks around it
unfoldable pub people : List ℕ → List ℕ
people line = trimmed (drop (suc (length (said line))) line)
