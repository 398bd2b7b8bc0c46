-- To be believed. How much a book holds. Assumes nothing.
use Rattle.std.specs.Prelude.{ℕ, ◌+◌, cond, ◌||◌, List, [], ◌∷◌, length}
use Rattle.grade.specs.Book.{Contents, decoded, malformed, other_version}

-- the sections of a book, none where it is refused
unfoldable pub sections_in : List ℕ → List Contents
sections_in b = cond (malformed b || other_version b) [] (decoded b)

-- how many rules they have together
unfoldable pub rule_total : List Contents → ℕ
rule_total [] = 0
rule_total (c ∷ rest) = length c.rules + rule_total rest

-- how many sets
unfoldable pub set_total : List Contents → ℕ
set_total [] = 0
set_total (c ∷ rest) = length c.sets + set_total rest
