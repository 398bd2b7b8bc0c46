-- Inner: only contracts inside the crate use these names; nothing here has to be believed.
-- A statement by the position of its line, what is still to come from a position on, and what is noted of a section. Assumes nothing.
use Rattle.std.specs.Prelude.{ℕ, suc, ◌+◌, ◌≤◌, ◌<◌, min, ◌≡◌, Bool, true, false, cond, not, ◌&&◌, ◌||◌, List, [], ◌∷◌, ◌++◌, map, eqb, leb, length, get_or, take, drop, All, Option, Some, None, Result, Ok, Err}
use Rattle.hl7.specs.Bytes.{within}
use Rattle.hl7.specs.Cut.{part_at, end_from}
use Rattle.hl7.specs.Spans.{between, parts_from}
use Rattle.hl7.specs.declared.cut.Span.{Span}
use Rattle.ack.specs.Splice.{Wrote}
use Rattle.booktext.specs.Lines.{Statement, line_feed, bar, blank, cut_at, words_in, statements_from, statements, word, verb, makes_rule, a_set, a_section}
use Rattle.booktext.specs.Meaning.{body, is_of, from}
use Rattle.booktext.specs.Words.{is_severity, a_length, a_time, a_code_kind}
use Rattle.booktext.specs.Changes.{spot_of, bind}
use Rattle.booktext.specs.Contents.{rules_of, with_names}
use Rattle.booktext.specs.Faults.{count_right, key_right, codes_right, place_right, kind_right, severity_right, before_bound, bound_right, Told, tell, nothing, number_of, told_by}
use Rattle.booktext.specs.Refusals.{statement_limit, compiled}
use Rattle.grade.specs.Encoding.{spell_all, text_bytes}
use Rattle.grade.specs.Limits.{book_limit}
use Rattle.grade.specs.Rule.{name_bytes, severity_of}
use Rattle.grade.specs.declared.rule.Place.{Place}
use Rattle.booktext.specs.declared.told.Row.{Row}
use Rattle.booktext.specs.declared.told.Fault.{Fault}
use Rattle.booktext.specs.Cells.{Cell}
use Rattle.booktext.specs.declared.names.Names.{Names}
use Rattle.booktext.specs.declared.sets.Run.{Run}

-- ---- words from a position on

-- LF or bar: what a line says ends there
abbrev pub ends : ℕ → Bool
ends x = eqb x line_feed || eqb x bar

-- a byte of a word
abbrev pub dark : ℕ → Bool
dark x = not (blank x || ends x)

-- the bytes that s begins with and that pass the test
unfoldable pub run : (ℕ → Bool) → List ℕ → List ℕ
run test [] = []
run test (x ∷ s) = cond (test x) (x ∷ run test s) []

-- what is said from a position on, to the end of what its line says
abbrev pub said_from : List ℕ → ℕ → List ℕ
said_from t at = part_at (cut_at ends (drop at t)) 0

unfoldable pub words_from : List ℕ → ℕ → List (List ℕ)
words_from t at = words_in (said_from t at)

abbrev pub span_bytes : List ℕ → Span → List ℕ
span_bytes t s = between t s.start s.end

-- r is where the first word at a position or later stands; where there is none it is empty
pub record NextWord (t : List ℕ) (at : ℕ) (r : Span) : Type 0 where
  pub here : span_bytes t r ≡ get_or (words_from t at) 0 []
  pub rest : words_from t r.end ≡ drop 1 (words_from t at)
  pub none : r.end ≤ r.start → words_from t at ≡ []
  pub some : r.start < r.end → words_from t at ≡ span_bytes t r ∷ words_from t r.end
  pub inside : r.start < r.end → r.end ≤ length t
  pub forward : (at ≤ r.start) × (r.start ≤ r.end)

-- ---- statements from a position on

-- the statement whose line begins at a position
abbrev pub statement_at : List ℕ → ℕ → ℕ → Statement
statement_at t at letter = record { at = at; words = words_from t at; given = letter }

-- where the line after it begins
abbrev pub next_line : List ℕ → ℕ → ℕ
next_line t at = end_from line_feed t at + 1

-- the statements of the lines that begin at a position or later
unfoldable pub left : List ℕ → ℕ → List Statement
left t at = statements_from at (parts_from line_feed t at)

abbrev pub body_from : List ℕ → ℕ → List Statement
body_from t at = body (left t at)

-- r is where the first statement of a list stands, and then the tail follows; past the text's end where the list is empty
pub record Finds (t : List ℕ) (list tail : List Statement) (r : ℕ) : Type 0 where
  pub some : r ≤ length t → list ≡ statement_at t r 0 ∷ tail
  pub none : length t < r → list ≡ []

-- ---- sets, commons and sections, noted

-- the statements from the first of some noted ones on that has a verb and a name, or from later on
unfoldable pub from_noted : List ℕ → ℕ → List ℕ → List ℕ → List Statement → List Statement
from_noted t v name [] later = later
from_noted t v name (at ∷ heads) later =
    cond (is_of v name (statement_at t at 0)) (statement_at t at 0 ∷ left t (next_line t at)) (from_noted t v name heads later)

-- sets, commons and sections up to a position are noted: whoever looks among them and then from there on has looked everywhere
pub record Heads (t heads : List ℕ) (rest : ℕ) : Type 0 where
  pub whole : (v : ℕ) (name : List ℕ) → within a_set a_section v ≡ true → from_noted t v name heads (from v name (left t rest)) ≡ from v name (statements t)
  pub inside : (i : ℕ) → i < length heads → get_or heads i 0 ≤ length t

-- ---- refusals

-- the number of one that was found, 0 where none was
abbrev pub row_number : Option Row → ℕ
row_number None = 0
row_number (Some row) = number_of row

-- what a step tells; nothing where it goes on
abbrev pub told_in : {A : Type 0} → Result A Fault → Told
told_in (Ok a) = nothing
told_in (Err fault) = told_by fault

-- where the next byte goes, 0 where there is none
abbrev pub end_in : Result ℕ Fault → ℕ
end_in (Ok at) = at
end_in (Err fault) = 0

-- ---- rows 33 to 42

-- the last five of them, of a statement with a verb and so many words
unfoldable pub late_fault : ℕ → ℕ → List (List ℕ) → ℕ
late_fault v n words =
    cond (not (codes_right v words)) 38
    (cond (not (place_right v (get_or words 1 []))) 39
    (cond (not (kind_right v (get_or words 2 []))) 40
    (cond (not (severity_right v n (get_or words 2 []) (get_or words 3 []))) 41
    (cond (not (bound_right v n (get_or words 2 []) (get_or words (before_bound v) []) (get_or words (suc (before_bound v)) []))) 42
    0))))

-- its words are right, wherever it stands
unfoldable pub sound : Statement → Bool
sound s =
    count_right (verb s) (length s.words)
    && key_right (verb s) (word s 1)
    && codes_right (verb s) s.words
    && place_right (verb s) (word s 1)
    && kind_right (verb s) (word s 2)
    && severity_right (verb s) (length s.words) (word s 2) (word s 3)
    && bound_right (verb s) (length s.words) (word s 2) (word s (before_bound (verb s))) (word s (suc (before_bound (verb s))))

-- and the severity that it was given is one
unfoldable pub ready : Statement → Bool
ready s = sound s && (eqb s.given 0 || is_severity (severity_of s.given))

-- ---- a section's statements, noted

-- a rule with the bound of another line, which has it after three words
abbrev pub bound_by : List ℕ → Option ℕ → Statement → Statement
bound_by t None s = s
bound_by t (Some line) s = cond (makes_rule s) (bind (drop 3 (words_from t line)) s) s

-- what a cell stands for: the statement of its line, with the severity that it was given and the bound of another line, where it has them
unfoldable pub noted : List ℕ → Cell → Statement
noted t cell = bound_by t cell.bound (statement_at t cell.line cell.given)

-- a cell has the verb, and the place and kind, of the statement that it stands for
pub record Marked (t : List ℕ) (cell : Cell) : Type 0 where
  pub by_verb : cell.verb ≡ verb (noted t cell)
  pub by_spot : cell.spot ≡ spot_of (noted t cell)

abbrev pub Marks : List ℕ → List Cell → Type 0
Marks t cells = All (Marked t) cells

-- stands for a cell where there is none
abbrev pub no_cell : Cell
no_cell = record { line = 0; given = 0; bound = None; verb = 0; spot = 0 }

-- it makes a rule of a place and kind
abbrev pub rules_it : ℕ → Statement → Bool
rules_it spot x = makes_rule x && eqb (spot_of x) spot

-- so many cells hold the statements, or there are too many of them
pub record Holds (t : List ℕ) (cells : List Cell) (count : ℕ) (ss : List Statement) : Type 0 where
  pub exact : count ≤ statement_limit → map (noted t) (take count cells) ≡ ss
  pub over : statement_limit < count → statement_limit < length ss
  pub marks : count ≤ statement_limit → Marks t (take count cells)

-- noting more of them
abbrev pub NotesMore : List ℕ → (before : List Cell) → ℕ → (after : List Cell) → ℕ → List Statement → Type 0
NotesMore t before count after r more = (ss : List Statement) → Holds t before count ss → Holds t after r (ss ++ more)

-- r is how many rules they make, whatever sets the section holds
abbrev pub CountsRules : List Statement → ℕ → Type 0
CountsRules ss r = (names : List (List ℕ)) → r ≡ length (rules_of names ss)

-- ---- names of sets

unfoldable pub names_in : List ℕ → Names → List (List ℕ)
names_in t names = map (span_bytes t) (take names.count names.spans)

-- the names are those; or they are none, and there are over 64 of them
abbrev pub NamesAre : List ℕ → List (List ℕ) → Option Names → Type 0
NamesAre t all (Some names) = names_in t names ≡ all
NamesAre t all None = 64 < length all

-- noting more of them, where they are new; or there would be over 64
pub record NamesMore (t : List ℕ) (names : Names) (r : Bool) (after : Names) (more : List (List ℕ)) : Type 0 where
  pub noted : r ≡ true → names_in t after ≡ with_names (names_in t names) more
  pub over : r ≡ false → 64 < length (with_names (names_in t names) more)

-- stands for a span where there is none
abbrev pub no_span : Span
no_span = record { start = 0; end = 0 }

-- ---- bytes of a book

-- its length fits a byte
abbrev pub is_short : List ℕ → Bool
is_short w = leb (length w) 255

-- segment name, field, component
abbrev pub place_bytes : Place → List ℕ
place_bytes p = name_bytes p.segment ++ (p.field ∷ p.component ∷ [])

-- set number, low, high: 0 where the kind with a number does not use them
abbrev pub bound_bytes : ℕ → ℕ → ℕ → ℕ → List ℕ
bound_bytes kind set low high =
    cond (eqb kind a_code_kind) set 0 ∷ cond (eqb kind a_length || eqb kind a_time) low 0 ∷ cond (eqb kind a_length) high 0 ∷ []

-- codes were written behind some others, of which there were so many; counted up to one more than a set may have
pub record Spelt (codes : List (List ℕ)) (before : List ℕ) (from : Run) (after : List ℕ) (r : Run) : Type 0 where
  pub wrote : Wrote before from.at (spell_all text_bytes codes) after r.at
  pub counted : r.count ≡ min (from.count + length codes) 1025

-- ---- what a part of a book was made to be

-- told what the rows give; and where they give nothing, the bytes were written
pub record Puts (told : Told) (bytes before : List ℕ) (at : ℕ) (after : List ℕ) (r : Result ℕ Fault) : Type 0 where
  pub tells : told_in r ≡ told
  pub wrote : (told_in r).number ≡ 0 → Wrote before at bytes after (end_in r)
  pub length : length after ≡ length before

-- told why there is no book; or its length, and the book in the first bytes of a place
pub record MakesBy (told : Told) (t : List ℕ) (r : Told) (place : List ℕ) : Type 0 where
  pub tells : r ≡ cond (eqb told.number 0) (tell 0 (length (compiled t)) 0) told
  pub fits : told.number ≡ 0 → length (compiled t) ≤ book_limit
  pub holds : told.number ≡ 0 → take (length (compiled t)) place ≡ compiled t
