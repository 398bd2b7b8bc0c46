-- To be believed. The lines of a text, their words, and the statements that they make. A text is a list of bytes. Assumes nothing.
use Rattle.std.specs.Prelude.{ℕ, suc, ◌+◌, Bool, cond, ◌||◌, List, [], ◌∷◌, eqb, length, get_or, take}
use Prim.Native.Char.{code}
use Rattle.hl7.specs.Text.{bytes}
use Rattle.hl7.specs.Bytes.{same, within}
use Rattle.hl7.specs.Cut.{ahead, cut, part_at}
use Rattle.hl7.specs.Spans.{occurrences}

-- ---- lines

-- the longest text, in bytes
abbrev pub text_limit : ℕ
text_limit = 1048576

abbrev pub line_feed : ℕ
line_feed = 10

abbrev pub bar : ℕ
bar = code "|"

-- LF ends a line, and what follows the last LF is a line too
abbrev pub lines : List ℕ → List (List ℕ)
lines t = cut line_feed t

-- a line says what stands before its first bar
abbrev pub said : List ℕ → List ℕ
said line = part_at (cut bar line) 0

-- the line of a position, from 1: one more than the LFs before it
unfoldable pub line_of : List ℕ → ℕ → ℕ
line_of t at = suc (occurrences line_feed (take at t))

-- ---- words

-- blank, tab or CR
abbrev pub blank : ℕ → Bool
blank x = eqb x 32 || eqb x 9 || eqb x 13

-- s cut at each byte that passes the test
unfoldable pub cut_at : (ℕ → Bool) → List ℕ → List (List ℕ)
cut_at test [] = [] ∷ []
cut_at test (x ∷ s) = ahead (test x) x (cut_at test s)

-- the parts that hold something
unfoldable pub filled : List (List ℕ) → List (List ℕ)
filled [] = []
filled ([] ∷ parts) = filled parts
filled ((x ∷ part) ∷ parts) = (x ∷ part) ∷ filled parts

-- words stand between blanks
unfoldable pub words_in : List ℕ → List (List ℕ)
words_in s = filled (cut_at blank s)

-- ---- statements

-- where its line begins, its words, and the severity letter that a section gives it by `use` (0: none)
pub record Statement : Type 0 where
  pub at : ℕ
  pub words : List (List ℕ)
  pub given : ℕ

-- word k, from 0
abbrev pub word : Statement → ℕ → List ℕ
word s k = get_or s.words k []

-- a line without words says nothing
unfoldable pub unless_silent : ℕ → List (List ℕ) → List Statement → List Statement
unless_silent at [] rest = rest
unless_silent at (w ∷ words) rest = record { at = at; words = w ∷ words; given = 0 } ∷ rest

-- the statements of lines, the first of which begins at a position
unfoldable pub statements_from : ℕ → List (List ℕ) → List Statement
statements_from at [] = []
statements_from at (line ∷ rest) = unless_silent at (words_in (said line)) (statements_from (at + length line + 1) rest)

unfoldable pub statements : List ℕ → List Statement
statements t = statements_from 0 (lines t)

-- ---- verbs

-- the place of a word among names, which count from n; 0 where it is none of them
unfoldable pub number_from : ℕ → List ℕ → List (List ℕ) → ℕ
number_from n w [] = 0
number_from n w (name ∷ names) = cond (same w name) n (number_from (suc n) w names)

-- The names of statements, heads first. A verb's number is its place here, from 1, so that a later name is appended and no number changes.
unfoldable pub verbs : List (List ℕ)
verbs =
    bytes "book" ∷ bytes "set" ∷ bytes "common" ∷ bytes "section" ∷ bytes "code"
    ∷ bytes "use" ∷ bytes "sets" ∷ bytes "rule" ∷ bytes "also" ∷ bytes "severity"
    ∷ bytes "bound" ∷ bytes "drop" ∷ bytes "more" ∷ bytes "less" ∷ []

abbrev pub a_book : ℕ
a_book = 1

abbrev pub a_set : ℕ
a_set = 2

abbrev pub a_common : ℕ
a_common = 3

abbrev pub a_section : ℕ
a_section = 4

abbrev pub a_code : ℕ
a_code = 5

abbrev pub a_use : ℕ
a_use = 6

abbrev pub some_sets : ℕ
some_sets = 7

abbrev pub a_rule : ℕ
a_rule = 8

abbrev pub an_also : ℕ
an_also = 9

abbrev pub a_severity : ℕ
a_severity = 10

abbrev pub a_bound : ℕ
a_bound = 11

abbrev pub a_drop : ℕ
a_drop = 12

abbrev pub a_more : ℕ
a_more = 13

abbrev pub a_less : ℕ
a_less = 14

-- the first word names the statement; 0 for any other word
unfoldable pub verb_of : List ℕ → ℕ
verb_of w = number_from 1 w verbs

abbrev pub verb : Statement → ℕ
verb s = verb_of (word s 0)

abbrev pub says : ℕ → Statement → Bool
says v s = eqb (verb s) v

-- a rule, the first or a further one of its place and kind
abbrev pub of_rule : ℕ → Bool
of_rule v = eqb v a_rule || eqb v an_also

abbrev pub makes_rule : Statement → Bool
makes_rule s = of_rule (verb s)

-- it speaks of a place and a kind: a rule, or what changes one
abbrev pub of_place : ℕ → Bool
of_place v = within a_rule a_drop v

-- it changes the codes of a set
abbrev pub of_codes : ℕ → Bool
of_codes v = eqb v a_more || eqb v a_less
