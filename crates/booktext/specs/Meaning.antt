-- To be believed. What belongs to a head, and the statements of a section with what it takes over from commons. Assumes nothing.
use Rattle.std.specs.Prelude.{ℕ, Bool, cond, ◌&&◌, List, [], ◌∷◌, ◌++◌, map, get_or, drop}
use Rattle.hl7.specs.Bytes.{within, same}
use Rattle.booktext.specs.Lines.{Statement, word, verb, says, a_book, a_common, a_section, a_use}

-- ---- heads

-- book, set, common or section
abbrev pub is_head : Statement → Bool
is_head s = within a_book a_section (verb s)

-- the statements up to the next head
unfoldable pub body : List Statement → List Statement
body [] = []
body (s ∷ ss) = cond (is_head s) [] (s ∷ body ss)

-- it has this verb and this name
abbrev pub is_of : ℕ → List ℕ → Statement → Bool
is_of v name s = says v s && same (word s 1) name

-- the statements from the first one with a verb and a name on; none where there is none
unfoldable pub from : ℕ → List ℕ → List Statement → List Statement
from v name [] = []
from v name (s ∷ ss) = cond (is_of v name s) (s ∷ ss) (from v name ss)

-- what stands under it
abbrev pub under : ℕ → List ℕ → List Statement → List Statement
under v name all = body (drop 1 (from v name all))

-- ---- inclusion

-- with the severity of a `use`
abbrev pub give : ℕ → Statement → Statement
give letter s = record { at = s.at; words = s.words; given = letter }

-- what `use NAME [SEVERITY]` takes over, of all statements
unfoldable pub taken : List Statement → Statement → List Statement
taken all s = cond (says a_use s) (map (give (get_or (word s 2) 0 0)) (under a_common (word s 1) all)) []

-- after each `use` what it takes over
unfoldable pub expand : List Statement → List Statement → List Statement
expand all [] = []
expand all (s ∷ ss) = s ∷ (taken all s ++ expand all ss)
