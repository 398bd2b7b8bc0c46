-- To be believed. What later statements of a section change in its rules and in its sets: what a statement says holds until a later one takes it back.
-- Assumes nothing.
use Rattle.std.specs.Prelude.{ℕ, ◌+◌, ◌*◌, Bool, false, cond, ◌&&◌, ◌||◌, List, [], ◌∷◌, ◌++◌, eqb, get_or, drop}
use Rattle.hl7.specs.Bytes.{same, among}
use Rattle.grade.specs.declared.rule.Place.{Place}
use Rattle.booktext.specs.Lines.{Statement, word, verb, says, makes_rule, of_place, a_severity, a_bound, a_drop, a_more, a_less}
use Rattle.booktext.specs.Words.{place_in, kind_number}
use Rattle.booktext.specs.Meaning.{give}

-- ---- place and kind

-- as one number: a field is at most 99, a component at most 20, a kind at most 6, so no two have the same
abbrev pub spot_number : Place → ℕ → ℕ
spot_number p kind = ((p.segment * 100 + p.field) * 21 + p.component) * 7 + kind

-- what a statement speaks of; 0 where it names no place
unfoldable pub spot_of : Statement → ℕ
spot_of s = cond (of_place (verb s)) (spot_number (place_in (word s 1)) (kind_number (word s 2))) 0

-- it has this verb, and speaks of this place and kind
abbrev pub says_of : ℕ → ℕ → Statement → Bool
says_of v spot x = says v x && eqb (spot_of x) spot

-- ---- rules

-- with the words of another bound
abbrev pub bind : List (List ℕ) → Statement → Statement
bind bound s = record { at = s.at; words = word s 0 ∷ word s 1 ∷ word s 2 ∷ word s 3 ∷ bound; given = s.given }

-- a rule of a place and kind as a later statement leaves it
abbrev pub amend : ℕ → Statement → Statement → Statement
amend spot s x =
    cond (says_of a_severity spot x) (give (get_or (word x 3) 0 0) s)
    (cond (says_of a_bound spot x) (bind (drop 3 x.words) s)
    s)

-- and as all that follow leave it: the last `severity` and the last `bound` count
unfoldable pub amended : ℕ → Statement → List Statement → Statement
amended spot s [] = s
amended spot s (x ∷ ss) = amended spot (amend spot s x) ss

-- one of those that follow drops it
unfoldable pub dropped : ℕ → List Statement → Bool
dropped spot [] = false
dropped spot (x ∷ ss) = says_of a_drop spot x || dropped spot ss

-- a statement as those that follow leave it: a rule may be gone
unfoldable pub settled_as : Statement → List Statement → List Statement
settled_as s ss = cond (makes_rule s) (cond (dropped (spot_of s) ss) [] (amended (spot_of s) s ss ∷ [])) (s ∷ [])

-- the statements of a section, each as those that follow leave it
unfoldable pub settled : List Statement → List Statement
settled [] = []
settled (s ∷ ss) = settled_as s ss ++ settled ss

-- ---- codes of a set

-- it has this verb, and names this set and this code
abbrev pub names_code : ℕ → List ℕ → List ℕ → Statement → Bool
names_code v name c x = says v x && same (word x 1) name && among c (drop 2 x.words)

-- a `less` of some statements takes it
unfoldable pub lessened : List ℕ → List ℕ → List Statement → Bool
lessened name c [] = false
lessened name c (x ∷ ss) = names_code a_less name c x || lessened name c ss

-- those of some codes that none takes
unfoldable pub kept : List ℕ → List Statement → List (List ℕ) → List (List ℕ)
kept name ss [] = []
kept name ss (c ∷ cs) = cond (lessened name c ss) (kept name ss cs) (c ∷ kept name ss cs)

-- the codes that a `more` names for a set
abbrev pub added_by : List ℕ → Statement → List (List ℕ)
added_by name x = cond (says a_more x && same (word x 1) name) (drop 2 x.words) []

-- those that no later `less` takes
unfoldable pub added : List ℕ → List Statement → List (List ℕ)
added name [] = []
added name (x ∷ ss) = kept name ss (added_by name x) ++ added name ss
