-- To be believed. The refusals of a text in the order in which they are tried, and what compiling it answers. Assumes nothing.
use Rattle.std.specs.Prelude.{ℕ, suc, ◌+◌, Bool, true, false, cond, not, ◌&&◌, ◌||◌, List, [], ◌∷◌, ◌++◌, eqb, leb, ltb, length, drop}
use Rattle.hl7.specs.Bytes.{within, is_in, among}
use Rattle.hl7.specs.Cut.{part_at}
use Rattle.grade.specs.Book.{Contents}
use Rattle.grade.specs.Encoding.{each, section_bytes, book_bytes}
use Rattle.grade.specs.Limits.{book_limit, section_limit, rule_limit, set_limit, code_count_limit}
use Rattle.booktext.specs.Lines.{Statement, word, verb, says, makes_rule, of_place, of_codes, statements, line_of, text_limit, line_feed, cut_at, a_set, a_common, a_section, a_use, some_sets, a_rule, a_bound, a_less}
use Rattle.booktext.specs.Words.{kind_number, a_code_kind}
use Rattle.booktext.specs.Meaning.{body, from, expand}
use Rattle.booktext.specs.Changes.{spot_of, settled}
use Rattle.booktext.specs.Contents.{names_of, held, section_of, meaning}
use Rattle.booktext.specs.Faults.{Told, tell, nothing, firstly, before_bound, first_fault}

-- ---- rows 31 and 32: the text's bytes

-- 0x20 to 0x7E, tab, LF, CR
abbrev pub allowed : ℕ → Bool
allowed x = within 32 126 x || eqb x 9 || eqb x line_feed || eqb x 13

abbrev pub forbidden : ℕ → Bool
forbidden x = not (allowed x)

-- where the first byte stands that is not allowed; the text's length where all are
abbrev pub wrong_at : List ℕ → ℕ
wrong_at t = length (part_at (cut_at forbidden t) 0)

abbrev pub bytes_told : List ℕ → Told
bytes_told t =
    cond (ltb text_limit (length t)) (tell 31 0 0)
    (cond (ltb (wrong_at t) (length t)) (tell 32 (line_of t (wrong_at t)) 0)
    nothing)

-- ---- rows 43 to 45: names

abbrev pub at_of : List Statement → ℕ
at_of [] = 0
at_of (s ∷ ss) = s.at

-- of the statements, the first with its verb and its name stands where it stands
abbrev pub is_first : List Statement → Statement → Bool
is_first all s = eqb (at_of (from (verb s) (word s 1) all)) s.at

abbrev pub is_there : List Statement → Bool
is_there [] = false
is_there (s ∷ ss) = true

abbrev pub is_set : List Statement → List ℕ → Bool
is_set all name = is_there (from a_set name all)

-- it names one set: a rule or a `bound` of kind CODE, a `more` or a `less`
abbrev pub names_set : Statement → Bool
names_set s = of_codes (verb s) || ((makes_rule s || says a_bound s) && eqb (kind_number (word s 2)) a_code_kind)

-- the set that it names
abbrev pub set_named : Statement → List ℕ
set_named s = word s (cond (of_codes (verb s)) 1 (before_bound (verb s)))

-- it names a common or a set that there is not
unfoldable pub lacks : List Statement → Statement → Bool
lacks all s =
    cond (says a_use s) (not (is_there (from a_common (word s 1) all)))
    (cond (names_set s) (not (is_set all (set_named s)))
    (says some_sets s && not (each (is_set all) (drop 1 s.words))))

-- with so many sections before it
unfoldable pub name_fault : List Statement → ℕ → Statement → ℕ
name_fault all count s =
    cond (within a_set a_section (verb s) && not (is_first all s)) 43
    (cond (says a_section s && leb section_limit count) 44
    (cond (lacks all s) 45
    0))

-- of statements, the first that has one; at the end, no section
unfoldable pub first_name_fault : List ℕ → List Statement → ℕ → List Statement → Told
first_name_fault t all count [] = cond (eqb count 0) (tell 44 0 0) nothing
first_name_fault t all count (s ∷ ss) =
    cond (eqb (name_fault all count s) 0) (first_name_fault t all (cond (says a_section s) (suc count) count) ss)
    (tell (name_fault all count s) (line_of t s.at) 0)

-- ---- rows 46 and 56: what a section takes over

-- of a section's own statements the first `use` of a common that it used before; `after` is all that follows the section's head
unfoldable pub used_twice : List ℕ → ℕ → List Statement → List Statement → Told
used_twice t line after [] = nothing
used_twice t line after (s ∷ ss) = cond (says a_use s && not (is_first after s)) (tell 46 (line_of t s.at) line) (used_twice t line after ss)

-- the most statements of a section after inclusion, each `use` counted beside what it brings
abbrev pub statement_limit : ℕ
statement_limit = 2048

-- ---- rows 47 to 49: what stands before a statement

-- place and kind of the rules that statements make
unfoldable pub spots_of : List Statement → List ℕ
spots_of [] = []
spots_of (s ∷ ss) = cond (makes_rule s) (spot_of s ∷ spots_of ss) (spots_of ss)

-- one of the rules that the statements before leave has this place and kind
unfoldable pub stands : ℕ → List Statement → Bool
stands spot before = is_in spot (spots_of (settled before))

-- the set with a name has a code, as they leave it
unfoldable pub has_code : List Statement → List Statement → List ℕ → List ℕ → Bool
has_code all before name c = among c (held all before name)

-- `less` asks that a code is there, `more` that it is not
abbrev pub code_asked : List Statement → List Statement → Statement → List ℕ → Bool
code_asked all before s c = cond (says a_less s) (has_code all before (word s 1) c) (not (has_code all before (word s 1) c))

-- the row that holds of a statement after some others; 0 where none does
unfoldable pub rule_fault : List Statement → List Statement → Statement → ℕ
rule_fault all before s =
    cond (says a_rule s && stands (spot_of s) before) 47
    (cond (of_place (verb s) && not (says a_rule s) && not (stands (spot_of s) before)) 48
    (cond (of_codes (verb s) && not (each (code_asked all before s) (drop 2 s.words))) 49
    0))

unfoldable pub first_rule_fault : List ℕ → List Statement → ℕ → List Statement → List Statement → Told
first_rule_fault t all line before [] = nothing
first_rule_fault t all line before (s ∷ ss) =
    cond (eqb (rule_fault all before s) 0) (first_rule_fault t all line (before ++ (s ∷ [])) ss)
    (tell (rule_fault all before s) (line_of t s.at) line)

-- ---- row 52: a change of a set that the section does not hold

unfoldable pub first_stray : List ℕ → ℕ → List (List ℕ) → List Statement → Told
first_stray t line names [] = nothing
first_stray t line names (s ∷ ss) =
    cond (of_codes (verb s) && not (among (word s 1) names)) (tell 52 (line_of t s.at) line) (first_stray t line names ss)

-- ---- row 53: a set without a code, or with over 1,024

unfoldable pub first_bad_set : List ℕ → ℕ → List Statement → List Statement → List (List ℕ) → Told
first_bad_set t line all ss [] = nothing
first_bad_set t line all ss (name ∷ names) =
    cond (within 1 code_count_limit (length (held all ss name))) (first_bad_set t line all ss names)
    (tell 53 (line_of t (at_of (from a_set name all))) line)

-- ---- a section, in a book that has so many bytes before it

-- a refusal that is told with the section's own line
abbrev pub over : ℕ → ℕ → Bool → Told
over number line holds = cond holds (tell number line line) nothing

-- rows 50 to 54, by the statements after inclusion
abbrev pub sizes_told : List ℕ → List Statement → ℕ → ℕ → Contents → List Statement → Told
sizes_told t all size line c ss =
    firstly (over 50 line (ltb rule_limit (length c.rules)))
    (firstly (over 51 line (ltb set_limit (length c.sets)))
    (firstly (first_stray t line (names_of (settled ss)) ss)
    (firstly (first_bad_set t line all ss (names_of (settled ss)))
    (over 54 line (ltb book_limit (size + length (section_bytes c)))))))

unfoldable pub section_told : List ℕ → List Statement → ℕ → Statement → List Statement → Told
section_told t all size s after =
    firstly (used_twice t (line_of t s.at) after (body after))
    (firstly (over 56 (line_of t s.at) (ltb statement_limit (length (expand all (body after)))))
    (firstly (first_rule_fault t all (line_of t s.at) [] (expand all (body after)))
    (sizes_told t all size (line_of t s.at) (section_of all s after) (expand all (body after)))))

unfoldable pub sections_told : List ℕ → List Statement → ℕ → List Statement → Told
sections_told t all size [] = nothing
sections_told t all size (s ∷ ss) =
    cond (says a_section s)
    (firstly (section_told t all size s ss) (sections_told t all (size + length (section_bytes (section_of all s ss))) ss))
    (sections_told t all size ss)

-- ---- compiling

-- mark, version and section count, in bytes
abbrev pub beginning : ℕ
beginning = 6

-- rows 43 to 54 and 56
abbrev pub named_told : List ℕ → Told
named_told t =
    firstly (first_name_fault t (statements t) 0 (statements t))
    (sections_told t (statements t) beginning (statements t))

-- why a text makes no book
unfoldable pub refusal : List ℕ → Told
refusal t = firstly (bytes_told t) (firstly (first_fault t 0 (statements t)) (named_told t))

-- the answer, and the output afterwards
pub record Outcome : Type 0 where
  pub told : Told
  pub output : List ℕ

abbrev pub outcome : Told → List ℕ → Outcome
outcome told out = record { told = told; output = out }

-- row 55: the output is shorter than what is to be written; its detail is the length needed. Else the first bytes of the output are written, and all
-- later ones keep their values
unfoldable pub written : (result out : List ℕ) → Outcome
written result out =
    cond (ltb (length out) (length result)) (outcome (tell 55 (length result) 0) out)
    (outcome (tell 0 (length result) 0) (result ++ drop (length result) out))

-- on a refusal the whole output keeps its values
abbrev pub unless_refused : Told → (result out : List ℕ) → Outcome
unless_refused told result out = cond (eqb told.number 0) (written result out) (outcome told out)

-- the book of a text
unfoldable pub compiled : List ℕ → List ℕ
compiled t = book_bytes (meaning t)

unfoldable pub compile_of : (t out : List ℕ) → Outcome
compile_of t out = unless_refused (refusal t) (compiled t) out
