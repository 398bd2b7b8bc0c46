-- Small books, as the definitions show them: one table under one statement. Assumes nothing.
use Prim.Native.Nat.{ℕ}
use Prim.Native.String.{String}
use mathlib.Core.Path.{◌≡◌, refl}
use mathlib.Core.Bool.{Bool, true, ◌&&◌}
use mathlib.Core.List.{List, [], ◌∷◌, ◌++◌}
use lib.Dec.{eqb}
use Rattle.hl7.specs.Text.{bytes}
use Rattle.hl7.specs.Bytes.{is_in, all, same, among, begins}
use Rattle.grade.specs.Book.{text, code_set, rule_in, section, distinct, sections, head_right, decoded, malformed, other_version}
use Rattle.grade.specs.Reader.{times}
use Rattle.grade.specs.Rule.{segment_names, name_bytes, number_from, name_of_letters, place_fits, severity_of, kind_of, rule_said, rule_of}
use Rattle.ack.specs.Decimal.{last_digits, decimal}
use Rattle.ack.specs.Layout.{joined, marked}
use Rattle.booktext.specs.Refusals.{written}
use Rattle.booktext.specs.Words.{kind_names}
use Rattle.canonical.specs.Shown.{printed, set_lines, set_names, place_word, rule_lines, section_lines, book_lines, shown, show_of, book_told}

-- a book is shown as this text, or is refused
data Sample : Type 0 where
  shows : List ℕ → String → Sample
  refused : List ℕ → ℕ → Sample

right : Sample → Bool
right (shows b t) = eqb (book_told b).number 0 && same (shown (decoded b)) (bytes t)
right (refused b number) = eqb (show_of b []).told.number number

all_right : List Sample → Bool
all_right [] = true
all_right (s ∷ samples) = right s && all_right samples

-- the paper's example
example : List ℕ
example =
    bytes "VXB"
    ++ (0 ∷ 1 ∷ 1
    ∷ 2 ∷ 65 ∷ 88 ∷ 0 ∷ 3 ∷ 0
    ∷ 80 ∷ 73 ∷ 68 ∷ 7 ∷ 1 ∷ 4 ∷ 69 ∷ 0 ∷ 0 ∷ 0
    ∷ 80 ∷ 73 ∷ 68 ∷ 3 ∷ 1 ∷ 1 ∷ 69 ∷ 0 ∷ 0 ∷ 0
    ∷ 80 ∷ 73 ∷ 68 ∷ 8 ∷ 0 ∷ 1 ∷ 87 ∷ 0 ∷ 0 ∷ 0 ∷ [])

-- key A/1, six rules, two sets that are equal and out of the order of their use; key B, one rule
two : List ℕ
two =
    bytes "VXB"
    ++ (0 ∷ 1 ∷ 2
    ∷ 3 ∷ 65 ∷ 47 ∷ 49 ∷ 0 ∷ 6 ∷ 2
    ∷ 80 ∷ 73 ∷ 68 ∷ 8 ∷ 0 ∷ 6 ∷ 69 ∷ 2 ∷ 0 ∷ 0
    ∷ 80 ∷ 73 ∷ 68 ∷ 8 ∷ 0 ∷ 6 ∷ 87 ∷ 1 ∷ 0 ∷ 0
    ∷ 80 ∷ 73 ∷ 68 ∷ 7 ∷ 1 ∷ 5 ∷ 73 ∷ 0 ∷ 8 ∷ 0
    ∷ 82 ∷ 88 ∷ 65 ∷ 15 ∷ 0 ∷ 2 ∷ 87 ∷ 0 ∷ 1 ∷ 16
    ∷ 80 ∷ 73 ∷ 68 ∷ 3 ∷ 20 ∷ 3 ∷ 87 ∷ 0 ∷ 0 ∷ 0
    ∷ 80 ∷ 73 ∷ 68 ∷ 7 ∷ 0 ∷ 4 ∷ 69 ∷ 0 ∷ 0 ∷ 0
    ∷ 0 ∷ 1 ∷ 1 ∷ 89
    ∷ 0 ∷ 1 ∷ 1 ∷ 89
    ∷ 1 ∷ 66 ∷ 0 ∷ 1 ∷ 0
    ∷ 80 ∷ 73 ∷ 68 ∷ 99 ∷ 0 ∷ 1 ∷ 69 ∷ 0 ∷ 0 ∷ 0 ∷ [])

samples : List Sample
samples =
    shows example "book 1\nsection AX\nrule PID-7.1 DATE E\nrule PID-3.1 REQUIRED E\nrule PID-8 REQUIRED W\n"
    ∷ shows
    two
    "book 1\nset A/1/1\ncode Y\nset A/1/2\ncode Y\nsection A/1\nsets A/1/1 A/1/2\nrule PID-8 CODE E A/1/2\nalso PID-8 CODE W A/1/1\nrule PID-7.1 TIME I 8\nrule RXA-15 LENGTH W 1 16\nrule PID-3.20 NUMBER W\nrule PID-7 DATE E\nsection B\nrule PID-99 REQUIRED E\n"
    -- rows 7 and 8, and an output that is too short
    ∷ refused (bytes "VXC") 7
    ∷ refused (bytes "VXB" ++ (0 ∷ 2 ∷ 1 ∷ [])) 8
    ∷ refused example 55
    ∷ []

samples-right : all_right samples ≡ true
unfolding samples all_right right example two is_in all same among begins text code_set rule_in section distinct sections head_right decoded malformed other_version times segment_names name_bytes number_from name_of_letters place_fits severity_of kind_of rule_said rule_of last_digits decimal joined marked written kind_names printed set_lines set_names place_word rule_lines section_lines book_lines shown show_of
samples-right = refl
