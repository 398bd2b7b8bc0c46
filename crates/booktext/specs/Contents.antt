-- To be believed. What a text means: the rules and sets of its sections, and the book that they make. Assumes nothing.
use Rattle.std.specs.Prelude.{ℕ, Bool, cond, ◌&&◌, List, [], ◌∷◌, ◌++◌, map, eqb, get_or, drop, Option, Some, None}
use Rattle.hl7.specs.Bytes.{among}
use Rattle.grade.specs.Book.{Contents}
use Rattle.grade.specs.Rule.{severity_of, kind_of, no_rule, rule_with}
use Rattle.grade.specs.declared.rule.Rule.{Rule}
use Rattle.booktext.specs.Lines.{Statement, word, says, makes_rule, number_from, a_set, a_section, a_code, some_sets, statements}
use Rattle.booktext.specs.Words.{number_in, place_in, kind_number, a_code_kind}
use Rattle.booktext.specs.Meaning.{body, from, expand}
use Rattle.booktext.specs.Changes.{settled, kept, added}

-- ---- rules

-- the severity that `use` or `severity` gives it, else its own
abbrev pub letter_of : Statement → ℕ
letter_of s = cond (eqb s.given 0) (get_or (word s 3) 0 0) s.given

abbrev pub rule_or : Option Rule → Rule
rule_or (Some rule) = rule
rule_or None = no_rule

-- the rule that it makes in a section which holds the named sets
unfoldable pub made : List (List ℕ) → Statement → Rule
made names s =
    rule_or
    (rule_with
    (place_in (word s 1))
    (severity_of (letter_of s))
    (kind_of (kind_number (word s 2)) (number_from 1 (word s 4) names) (number_in (word s 4)) (number_in (word s 5))))

unfoldable pub rules_of : List (List ℕ) → List Statement → List Rule
rules_of names [] = []
rules_of names (s ∷ ss) = cond (makes_rule s) (made names s ∷ rules_of names ss) (rules_of names ss)

-- ---- sets

-- the names in `sets` lines
unfoldable pub pinned : List Statement → List (List ℕ)
pinned [] = []
pinned (s ∷ ss) = cond (says some_sets s) (drop 1 s.words ++ pinned ss) (pinned ss)

-- a rule of kind CODE
abbrev pub asks_code : Statement → Bool
asks_code s = makes_rule s && eqb (kind_number (word s 2)) a_code_kind

-- the names that rules of kind CODE give
unfoldable pub named : List Statement → List (List ℕ)
named [] = []
named (s ∷ ss) = cond (asks_code s) (word s 4 ∷ named ss) (named ss)

-- names with one more, where it is new
abbrev pub with_name : List (List ℕ) → List ℕ → List (List ℕ)
with_name names name = cond (among name names) names (names ++ (name ∷ []))

unfoldable pub with_names : List (List ℕ) → List (List ℕ) → List (List ℕ)
with_names names [] = names
with_names names (name ∷ more) = with_names (with_name names name) more

-- the sets that a section holds: those in `sets` lines, then as its rules first name them, each once
unfoldable pub names_of : List Statement → List (List ℕ)
names_of ss = with_names [] (pinned ss ++ named ss)

-- the codes of `code` lines
unfoldable pub listed : List Statement → List (List ℕ)
listed [] = []
listed (s ∷ ss) = cond (says a_code s) (drop 1 s.words ++ listed ss) (listed ss)

-- the codes of a set's own line after its name, then those of its `code` lines
abbrev pub codes_at : List Statement → List (List ℕ)
codes_at [] = []
codes_at (s ∷ ss) = drop 2 s.words ++ listed (body ss)

unfoldable pub codes_of : List Statement → List ℕ → List (List ℕ)
codes_of all name = codes_at (from a_set name all)

-- those that it has in a section with some statements: what is left of its own, then what is added
unfoldable pub held : List Statement → List Statement → List ℕ → List (List ℕ)
held all ss name = kept name ss (codes_of all name) ++ added name ss

-- ---- the book

-- a section by its key and its statements after inclusion
unfoldable pub contents_of : List Statement → List ℕ → List Statement → Contents
contents_of all key ss =
    record { key = key; rules = rules_of (names_of (settled ss)) (settled ss); sets = map (held all ss) (names_of (settled ss)) }

-- the section whose head is s, with all that follows it
abbrev pub section_of : List Statement → Statement → List Statement → Contents
section_of all s after = contents_of all (word s 1) (expand all (body after))

unfoldable pub sections_in : List Statement → List Statement → List Contents
sections_in all [] = []
sections_in all (s ∷ ss) = cond (says a_section s) (section_of all s ss ∷ sections_in all ss) (sections_in all ss)

unfoldable pub meaning : List ℕ → List Contents
meaning t = sections_in (statements t) (statements t)
