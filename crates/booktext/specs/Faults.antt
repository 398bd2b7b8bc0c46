-- To be believed. What one statement may be refused for by itself: rows 33 to 42. Assumes nothing.
use Rattle.std.specs.Prelude.{ℕ, suc, ◌-◌, Bool, cond, not, ◌||◌, List, [], ◌∷◌, eqb, leb, length, drop, Result, Ok, Err}
use Rattle.hl7.specs.Text.{bytes}
use Rattle.hl7.specs.Bytes.{within, same}
use Rattle.grade.specs.Encoding.{each, text_fits}
use Rattle.grade.specs.Limits.{key_limit, code_limit}
use Rattle.booktext.specs.Lines.{Statement, word, verb, of_rule, line_of, of_place, of_codes, a_book, a_set, a_common, a_section, a_code, a_use, some_sets, a_severity, a_bound, a_drop}
use Rattle.booktext.specs.Words.{is_place, is_severity_word, kind_number, bound_fits}
use Rattle.booktext.specs.declared.told.Row.{Row}
use Rattle.booktext.specs.declared.told.Fault.{Fault}

-- ---- answers

-- a number and two details: a line, or with 0 and 55 a length; and the line of the section that was being made, 0 outside one
pub record Told : Type 0 where
  pub number : ℕ
  pub detail : ℕ
  pub section : ℕ

abbrev pub tell : ℕ → ℕ → ℕ → Told
tell number detail section = record { number = number; detail = detail; section = section }

abbrev pub nothing : Told
nothing = tell 0 0 0

-- the first that refuses
abbrev pub firstly : Told → Told → Told
firstly a b = cond (eqb a.number 0) b a

-- the number of a refusal
abbrev pub number_of : Row → ℕ
number_of Row.Malformed = 7
number_of Row.OtherVersion = 8
number_of Row.LongText = 31
number_of Row.WrongByte = 32
number_of Row.UnknownStatement = 33
number_of Row.Misplaced = 34
number_of Row.WordCount = 35
number_of Row.WrongVersion = 36
number_of Row.WrongKey = 37
number_of Row.WrongCode = 38
number_of Row.WrongPlace = 39
number_of Row.WrongKind = 40
number_of Row.WrongSeverity = 41
number_of Row.WrongBound = 42
number_of Row.NameTaken = 43
number_of Row.SectionCount = 44
number_of Row.UnknownName = 45
number_of Row.UsedTwice = 46
number_of Row.RuleStands = 47
number_of Row.NoRule = 48
number_of Row.WrongChange = 49
number_of Row.RuleCount = 50
number_of Row.SetCount = 51
number_of Row.StraySet = 52
number_of Row.CodeCount = 53
number_of Row.LongBook = 54
number_of Row.ShortOutput = 55
number_of Row.StatementCount = 56

-- what it tells, with its details
abbrev pub told_by : Fault → Told
told_by f = tell (number_of f.row) f.detail f.section

-- what an answer tells: the length with 0, or the refusal
abbrev pub told_of : Result ℕ Fault → Told
told_of (Ok size) = tell 0 size 0
told_of (Err fault) = told_by fault

-- ---- where a statement stands

-- by the verb of the last head before it, 0 where there is none: may one with a verb stand there
abbrev pub may_stand : ℕ → ℕ → Bool
may_stand here v =
    cond (eqb v a_book) (eqb here 0)
    (cond (eqb v a_code) (eqb here a_set)
    (cond (eqb v a_use || eqb v some_sets) (eqb here a_section)
    (cond (of_place v || of_codes v) (leb a_common here)
    (leb a_book here))))

-- where the next one stands
abbrev pub inside : ℕ → ℕ → ℕ
inside here v = cond (within a_book a_section v) v here

-- ---- the words of a statement with a verb

-- how many there may be
abbrev pub count_right : ℕ → ℕ → Bool
count_right v n =
    cond (of_rule v) (within 4 6 n)
    (cond (eqb v a_use) (within 2 3 n)
    (cond (eqb v a_book || eqb v a_common || eqb v a_section) (eqb n 2)
    (cond (eqb v a_severity) (eqb n 4)
    (cond (eqb v a_bound) (within 4 5 n)
    (cond (eqb v a_drop) (eqb n 3)
    (cond (of_codes v) (leb 3 n)
    (leb 2 n)))))))

abbrev pub version_right : ℕ → List ℕ → Bool
version_right v w = not (eqb v a_book) || same w (bytes "1")

abbrev pub key_right : ℕ → List ℕ → Bool
key_right v w = not (eqb v a_section) || text_fits key_limit w

-- the words that have to be codes
abbrev pub code_words : ℕ → List (List ℕ) → List (List ℕ)
code_words v words = cond (eqb v a_code) (drop 1 words) (cond (eqb v a_set || of_codes v) (drop 2 words) [])

unfoldable pub codes_right : ℕ → List (List ℕ) → Bool
codes_right v words = each (text_fits code_limit) (code_words v words)

abbrev pub place_right : ℕ → List ℕ → Bool
place_right v w = not (of_place v) || is_place w

abbrev pub kind_right : ℕ → List ℕ → Bool
kind_right v w = not (of_place v) || leb 1 (kind_number w)

-- the fourth word of a rule or a `severity`; the third of a `use` that has one
abbrev pub severity_right : ℕ → ℕ → List ℕ → List ℕ → Bool
severity_right v n third fourth =
    cond (of_rule v || eqb v a_severity) (is_severity_word fourth)
    (not (eqb v a_use) || leb n 2 || is_severity_word third)

-- how many words stand before a bound: a rule has its severity there
abbrev pub before_bound : ℕ → ℕ
before_bound v = cond (eqb v a_bound) 3 4

-- the first two words of the bound
abbrev pub bound_right : ℕ → ℕ → List ℕ → List ℕ → List ℕ → Bool
bound_right v n kind low high = not (of_rule v || eqb v a_bound) || bound_fits (kind_number kind) (n - before_bound v) low high

-- ---- the first row that holds; 0 where none does

unfoldable pub fault_of : ℕ → Statement → ℕ
fault_of here s =
    cond (eqb (verb s) 0) 33
    (cond (not (may_stand here (verb s))) 34
    (cond (not (count_right (verb s) (length s.words))) 35
    (cond (not (version_right (verb s) (word s 1))) 36
    (cond (not (key_right (verb s) (word s 1))) 37
    (cond (not (codes_right (verb s) s.words)) 38
    (cond (not (place_right (verb s) (word s 1))) 39
    (cond (not (kind_right (verb s) (word s 2))) 40
    (cond (not (severity_right (verb s) (length s.words) (word s 2) (word s 3))) 41
    (cond (not (bound_right (verb s) (length s.words) (word s 2) (word s (before_bound (verb s))) (word s (suc (before_bound (verb s)))))) 42
    0)))))))))

-- of statements, the first that has one; each stands where the heads before it say
unfoldable pub first_fault : List ℕ → ℕ → List Statement → Told
first_fault t here [] = nothing
first_fault t here (s ∷ ss) =
    cond (eqb (fault_of here s) 0) (first_fault t (inside here (verb s)) ss) (tell (fault_of here s) (line_of t s.at) 0)
