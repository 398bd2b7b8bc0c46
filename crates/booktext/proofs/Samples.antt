-- Small texts, as the definitions read and judge them: one table under one statement. Assumes nothing.
use Prim.Native.Nat.{ℕ}
use Prim.Native.String.{String}
use mathlib.Core.Path.{◌≡◌, refl}
use mathlib.Core.Bool.{Bool, true, ◌&&◌}
use mathlib.Core.List.{List, [], ◌∷◌, ◌++◌}
use lib.Dec.{eqb}
use Rattle.hl7.specs.Text.{bytes}
use Rattle.hl7.specs.Bytes.{is_in, all, same, among}
use Rattle.hl7.specs.Cut.{ahead, cut}
use Rattle.hl7.specs.Number.{value_after}
use Rattle.hl7.specs.Spans.{occurrences}
use Rattle.grade.specs.Rule.{segment_names, name_bytes, number_from as name_from, name_of_letters, place_fits, severity_of, kind_of}
use Rattle.grade.specs.Encoding.{book_bytes}
use Rattle.booktext.specs.Lines.{line_of, cut_at, filled, words_in, unless_silent, statements_from, statements, number_from, verbs, verb_of}
use Rattle.booktext.specs.Words.{is_number, number_in, place_in, is_place, is_severity_word, kind_names, kind_number, bound_fits}
use Rattle.booktext.specs.Meaning.{body, from, taken, expand}
use Rattle.booktext.specs.Changes.{spot_of, amended, dropped, settled_as, settled, lessened, kept, added}
use Rattle.booktext.specs.Contents.{made, rules_of, pinned, named, with_names, names_of, listed, codes_of, held, contents_of, sections_in, meaning}
use Rattle.booktext.specs.Faults.{Told, codes_right, fault_of, first_fault}
use Rattle.booktext.specs.Refusals.{lacks, name_fault, first_name_fault, used_twice, spots_of, stands, has_code, rule_fault, first_rule_fault, first_stray, first_bad_set, section_told, sections_told, refusal, compiled}

-- a text makes these bytes; or it is refused, with a line and a section's line
data Sample : Type 0 where
  makes : String → List ℕ → Sample
  refused : String → ℕ → ℕ → ℕ → Sample

is : Told → ℕ → ℕ → ℕ → Bool
is told number detail section = eqb told.number number && eqb told.detail detail && eqb told.section section

right : Sample → Bool
right (makes text book) = is (refusal (bytes text)) 0 0 0 && same (compiled (bytes text)) book
right (refused text number line section) = is (refusal (bytes text)) number line section

all_right : List Sample → Bool
all_right [] = true
all_right (s ∷ samples) = right s && all_right samples

-- key A, two rules, one set; rules of ten bytes; the set's codes
section_a : List ℕ
section_a =
    1 ∷ 65 ∷ 0 ∷ 2 ∷ 1
    ∷ 80 ∷ 73 ∷ 68 ∷ 7 ∷ 1 ∷ 5 ∷ 73 ∷ 0 ∷ 8 ∷ 0
    ∷ 80 ∷ 73 ∷ 68 ∷ 8 ∷ 0 ∷ 6 ∷ 73 ∷ 1 ∷ 0 ∷ 0
    ∷ 0 ∷ 2 ∷ 1 ∷ 70 ∷ 1 ∷ 77 ∷ []

-- key BB, three rules, two sets
section_bb : List ℕ
section_bb =
    2 ∷ 66 ∷ 66 ∷ 0 ∷ 3 ∷ 2
    ∷ 80 ∷ 73 ∷ 68 ∷ 8 ∷ 0 ∷ 6 ∷ 69 ∷ 1 ∷ 0 ∷ 0
    ∷ 80 ∷ 73 ∷ 68 ∷ 8 ∷ 0 ∷ 6 ∷ 87 ∷ 2 ∷ 0 ∷ 0
    ∷ 82 ∷ 88 ∷ 65 ∷ 15 ∷ 0 ∷ 2 ∷ 87 ∷ 0 ∷ 1 ∷ 16
    ∷ 0 ∷ 1 ∷ 1 ∷ 89
    ∷ 0 ∷ 2 ∷ 1 ∷ 70 ∷ 1 ∷ 77 ∷ []

-- key A, two rules that a section changed, and a set with one code less and one more
changed_a : List ℕ
changed_a =
    1 ∷ 65 ∷ 0 ∷ 2 ∷ 1
    ∷ 80 ∷ 73 ∷ 68 ∷ 8 ∷ 0 ∷ 6 ∷ 73 ∷ 1 ∷ 0 ∷ 0
    ∷ 80 ∷ 73 ∷ 68 ∷ 7 ∷ 1 ∷ 5 ∷ 69 ∷ 0 ∷ 4 ∷ 0
    ∷ 0 ∷ 2 ∷ 1 ∷ 77 ∷ 1 ∷ 88 ∷ []

-- key B, a rule that went and came again behind another, the bound of which is another set
changed_b : List ℕ
changed_b =
    1 ∷ 66 ∷ 0 ∷ 2 ∷ 1
    ∷ 80 ∷ 73 ∷ 68 ∷ 8 ∷ 0 ∷ 6 ∷ 87 ∷ 1 ∷ 0 ∷ 0
    ∷ 80 ∷ 73 ∷ 68 ∷ 3 ∷ 1 ∷ 1 ∷ 87 ∷ 0 ∷ 0 ∷ 0
    ∷ 0 ∷ 1 ∷ 1 ∷ 85 ∷ []

samples : List Sample
samples =
    -- a common that is taken over as I, a set below its use, sets pinned and numbered, blanks, CR LF and remarks
    makes
    "book 1\nset sex F M | HL7 0001\ncommon all\nrule PID-7.1 TIME\tE 8\r\n\n  rule PID-8 CODE W sex\nsection A\nuse all I\nsection BB\nsets yes\nrule PID-8 CODE E yes\nalso PID-8 CODE W sex\nrule RXA-15 LENGTH W 1 16\nset yes\ncode Y"
    (bytes "VXB" ++ (0 ∷ 1 ∷ 2 ∷ (section_a ++ section_bb)))
    -- the last `severity` and `bound` count; `drop` takes a rule away, and another may follow; `less` and `more` change the set of one section
    ∷ makes
    "book 1\nset s F M\nset u U\ncommon c\nrule PID-3.1 REQUIRED E\nrule PID-8 CODE W s\nrule PID-7.1 TIME E 8\nsection A\nuse c\ndrop PID-3.1 REQUIRED\nseverity PID-8 CODE E\nmore s X F2\nbound PID-7.1 TIME 6\nseverity PID-8 CODE I\nbound PID-7.1 TIME 4\nless s F F2\nsection B\nuse c\ndrop PID-3.1 REQUIRED\ndrop PID-7.1 TIME\nrule PID-3.1 REQUIRED W\nbound PID-8 CODE u"
    (bytes "VXB" ++ (0 ∷ 1 ∷ 2 ∷ (changed_a ++ changed_b)))
    ∷ refused "" 44 0 0
    ∷ refused "book 1\nsection A\u{7f}" 32 2 0
    ∷ refused "book 1\nsection A\nkeep PID-8 CODE" 33 3 0
    ∷ refused "set a" 34 1 0
    ∷ refused "book" 35 1 0
    ∷ refused "book 2" 36 1 0
    ∷ refused "book 1\nsection A&B" 37 2 0
    ∷ refused "book 1\nset a 12345678901234567890 123456789012345678901" 38 2 0
    ∷ refused "book 1\nsection A\nrule MSH-2 DATE E" 39 3 0
    ∷ refused "book 1\nsection A\nrule MSH-3.0 DATE E" 39 3 0
    ∷ refused "book 1\nsection A\nrule MSH-3.20 date E" 40 3 0
    ∷ refused "book 1\nsection A\nrule PID-99 DATE e" 41 3 0
    ∷ refused "book 1\nsection A\nrule PID-99 LENGTH E 2 1" 42 3 0
    ∷ refused "book 1\nsection A\nbound PID-99 REQUIRED 1" 42 3 0
    ∷ refused "book 1\nsection A\nset A\ncommon A\nsection A" 43 5 0
    ∷ refused "book 1\nsection A\nuse a\nset a" 45 3 0
    ∷ refused "book 1\nsection A\nless a F" 45 3 0
    ∷ refused "book 1\nsection A\nbound PID-8 CODE a" 45 3 0
    ∷ refused "book 1\ncommon a\nsection A\nuse a\nuse a" 46 5 3
    ∷ refused "book 1\ncommon a\nrule PID-8 DATE E\nsection A\nrule PID-8 DATE W\nuse a" 47 3 4
    ∷ refused "book 1\nsection A\nalso PID-8 DATE W" 48 3 2
    ∷ refused "book 1\nsection A\nrule PID-8 DATE W\ndrop PID-8 DATE\nalso PID-8 DATE W" 48 5 2
    ∷ refused "book 1\nsection A\nseverity PID-8 DATE E\nrule PID-8 DATE W" 48 3 2
    ∷ refused "book 1\nset s F\nsection A\nrule PID-8 CODE E s\nless s F\nmore s F G\nmore s F" 49 7 3
    ∷ refused "book 1\nset s F\nsection A\nrule PID-8 CODE E s\nless s G" 49 5 3
    ∷ refused "book 1\nset s F\nsection A\nrule PID-8 CODE E s\nmore s G\ndrop PID-8 CODE" 52 5 3
    ∷ refused "book 1\nset a\nsection A\nsets a" 53 2 3
    ∷ refused "book 1\nset a F\nsection A\nsets a\nless a F" 53 2 3
    ∷ []

samples-right : all_right samples ≡ true
unfolding samples all_right right is section_a section_bb changed_a changed_b is_in all same among ahead cut value_after occurrences segment_names name_bytes name_from name_of_letters place_fits severity_of kind_of book_bytes line_of cut_at filled words_in unless_silent statements_from statements number_from verbs verb_of is_number number_in place_in is_place is_severity_word kind_names kind_number bound_fits body from taken expand made rules_of pinned named with_names names_of listed codes_of spot_of amended dropped settled_as settled lessened kept added held contents_of sections_in meaning codes_right fault_of first_fault lacks name_fault first_name_fault used_twice spots_of stands has_code rule_fault first_rule_fault first_stray first_bad_set section_told sections_told refusal compiled
samples-right = refl
