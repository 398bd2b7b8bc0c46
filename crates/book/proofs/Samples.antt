-- What is printed, for some answers of the calls: computed from the definitions. Assumes nothing.
use Prim.Native.Nat.{ℕ}
use Prim.Native.String.{String}
use mathlib.Core.Path.{◌≡◌, refl}
use mathlib.Core.List.{List, [], ◌∷◌, ◌++◌, map}
use Rattle.hl7.specs.Text.{bytes}
use Rattle.hl7.specs.Bytes.{all, same, among, begins}
use Rattle.grade.specs.Reader.{times}
use Rattle.grade.specs.Rule.{segment_names, number_from, name_of_letters, place_fits, severity_of, kind_of, rule_said, rule_of}
use Rattle.grade.specs.Book.{text, code_set, rule_in, section, distinct, sections, head_right, decoded, malformed, other_version}
use Rattle.ack.specs.Decimal.{last_digits, decimal}
use Rattle.booktext.specs.Faults.{Told}
use Rattle.book.specs.Counts.{sections_in, rule_total, set_total}
use Rattle.book.specs.Words.{last_words, later_words, words_for}
use Rattle.book.specs.Reply.{line_text, refused_text, source_refused_text, compiled_text, told_text, book_refused_text, shown_text, legend_text, diff_text}

-- a section AX with a set of one code and two rules, of which the second names the set
example : List ℕ
example =
    bytes "VXB" ++ (0 ∷ 1 ∷ 1 ∷ 2 ∷ bytes "AX") ++ (0 ∷ 2 ∷ 1 ∷ [])
    ++ (bytes "PID" ++ (7 ∷ 1 ∷ 4 ∷ bytes "E")) ++ (0 ∷ 0 ∷ 0 ∷ [])
    ++ (bytes "PID" ++ (8 ∷ 0 ∷ 6 ∷ bytes "W")) ++ (1 ∷ 0 ∷ 0 ∷ [])
    ++ (0 ∷ 1 ∷ 1 ∷ bytes "F")

-- an answer, and the line for it
record Sample : Type 0 where
  told : Told
  prints : String

row : (number detail section : ℕ) → String → Sample
row number detail section prints = record { told = record { number = number; detail = detail; section = section }; prints = prints }

samples : List Sample
samples =
    row 0 36 0 "compiled 36 bytes, 1 sections, 2 rules, 1 sets\n"
    ∷ row 31 0 0 "refused 31: the text has over 1,048,576 bytes\n"
    ∷ row 33 12 0 "refused 33 line 12: the first word is no statement's name\n"
    ∷ row 37 7 0 "refused 37 line 7: not a key: 1 to 20 signs, none of | ^ ~ \\ &\n"
    ∷ row 48 311 420 "refused 48 line 311 section 420: the section has no rule of this place and kind\n"
    ∷ row 49 9 8 "refused 49 line 9 section 8: a code that more adds is there, or one that less takes is not\n"
    ∷ row 52 9 8 "refused 52 line 9 section 8: the section does not hold this set\n"
    ∷ row 57 1 2 "refused 57 line 1 section 2: \n"
    ∷ []

samples_hold : map (λ (s : Sample). told_text s.told example) samples ≡ map (λ (s : Sample). bytes s.prints) samples
unfolding samples row example told_text compiled_text source_refused_text refused_text line_text last_words later_words words_for sections_in rule_total set_total last_digits decimal all same among begins segment_names number_from name_of_letters place_fits severity_of kind_of rule_said rule_of times text code_set rule_in section distinct sections head_right decoded malformed other_version
samples_hold = refl

-- ---- a text that was asked for, which stands in a longer output
output : List ℕ
output = bytes "book 1\nsection AX\n----"

shown_samples : List Sample
shown_samples = row 0 18 0 "book 1\nsection AX\n" ∷ row 7 0 0 "book refused 7\n" ∷ row 8 0 0 "book refused 8\n" ∷ []

shown_hold : map (λ (s : Sample). shown_text s.told output) shown_samples ≡ map (λ (s : Sample). bytes s.prints) shown_samples
unfolding shown_samples row output shown_text book_refused_text last_digits decimal
shown_hold = refl

legend_samples : List Sample
legend_samples =
    row 0 7 0 "book 1\n"
    ∷ row 46 10 17 "refused 46 line 10 section 17: the section has used this common before\n"
    ∷ row 55 4194305 0 "refused 55: what is to be printed has over 4,194,304 bytes\n"
    ∷ []

legends_hold : map (λ (s : Sample). legend_text s.told output) legend_samples ≡ map (λ (s : Sample). bytes s.prints) legend_samples
unfolding legend_samples row output legend_text source_refused_text refused_text line_text last_words later_words words_for last_digits decimal
legends_hold = refl

-- ---- two books
diff_samples : List Sample
diff_samples =
    row 0 0 0 ""
    ∷ row 0 7 0 "book 1\n"
    ∷ row 7 1 0 "book refused 7 old\n"
    ∷ row 8 1 0 "book refused 8 old\n"
    ∷ row 7 2 0 "book refused 7 new\n"
    ∷ row 8 2 0 "book refused 8 new\n"
    ∷ row 55 4194305 0 "refused 55: what is to be printed has over 4,194,304 bytes\n"
    ∷ []

diffs_hold : map (λ (s : Sample). diff_text s.told output) diff_samples ≡ map (λ (s : Sample). bytes s.prints) diff_samples
unfolding diff_samples row output diff_text book_refused_text source_refused_text refused_text line_text last_words later_words words_for last_digits decimal
diffs_hold = refl
