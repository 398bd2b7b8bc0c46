-- Small books, as the definitions compare them: one for each kind of line, in one table under one statement. Assumes nothing.
use Prim.Native.Nat.{ℕ}
use Prim.Native.String.{String}
use mathlib.Core.Path.{◌≡◌, refl}
use mathlib.Core.Bool.{Bool, true, ◌&&◌}
use mathlib.Core.List.{List, [], ◌∷◌, ◌++◌, flat_map}
use lib.Dec.{eqb}
use Rattle.hl7.specs.Text.{bytes}
use Rattle.hl7.specs.Bytes.{is_in, all, same, among, begins}
use Rattle.hl7.specs.Spans.{occurrences}
use Rattle.grade.specs.Book.{Contents, text, code_set, rule_in, section, distinct, sections, head_right, under, decoded, malformed, other_version}
use Rattle.grade.specs.Encoding.{book_bytes}
use Rattle.grade.specs.Reader.{times}
use Rattle.grade.specs.Rule.{pid, rxa, segment_names, name_bytes, number_from, name_of_letters, place_fits, severity_of, kind_of, rule_said, rule_of}
use Rattle.grade.specs.Strict.{keep, count_from}
use Rattle.grade.specs.declared.rule.Kind.{Kind}
use Rattle.grade.specs.declared.rule.Rule.{Rule}
use Rattle.grade.specs.declared.rule.Severity.{Severity}
use Rattle.ack.specs.Decimal.{last_digits, decimal}
use Rattle.ack.specs.Layout.{joined, marked}
use Rattle.booktext.specs.Refusals.{written}
use Rattle.booktext.specs.Words.{kind_names}
use Rattle.canonical.specs.Shown.{printed, place_word}
use Rattle.difference.specs.Difference.{numbered, counterpart, all_among, gone, rule_line, changes, old_lines, new_lines, section_lines, old_section, new_section, differences, diff_of}

-- two books differ by this text; or comparing their bytes is refused with this number and detail
data Sample : Type 0 where
  differ : (olds news : List Contents) → String → Sample
  refused : (old new : List ℕ) → (number detail : ℕ) → Sample

right : Sample → Bool
right (differ olds news t) = same (printed (differences olds news)) (bytes t)
right (refused old new number detail) = eqb (diff_of old new []).told.number number && eqb (diff_of old new []).told.detail detail

all_right : List Sample → Bool
all_right [] = true
all_right (s ∷ samples) = right s && all_right samples

rule : ℕ → ℕ → ℕ → Severity → Kind → Rule
rule segment field component severity kind = record { place = record { segment = segment; field = field; component = component }; severity = severity; kind = kind }

page : String → List Rule → List (List (List ℕ)) → Contents
page key rules sets = record { key = bytes key; rules = rules; sets = sets }

-- one page A of one rule
one : Severity → Kind → List (List (List ℕ)) → List Contents
one severity kind sets = page "A" (rule pid 8 0 severity kind ∷ []) sets ∷ []

sexes : List (List (List ℕ))
sexes = (bytes "F" ∷ bytes "M" ∷ bytes "U" ∷ []) ∷ []

name : Rule
name = rule pid 5 1 Severity.Error Kind.Required

dose : Severity → Rule
dose severity = rule rxa 9 0 severity (Kind.Code 1)

samples : List Sample
samples =
    -- nothing: other numbers of sets, and the same codes in another order and twice
    differ (one Severity.Error (Kind.Code 1) sexes) (one Severity.Error (Kind.Code 2) ([] ∷ (bytes "U" ∷ bytes "M" ∷ bytes "F" ∷ bytes "M" ∷ []) ∷ [])) ""
    -- a severity, a bound, codes, and severity with codes
    ∷ differ (one Severity.Error Kind.Required []) (one Severity.Informational Kind.Required []) "A ~ 1 PID-8 REQUIRED E -> I\n"
    ∷ differ (one Severity.Error (Kind.Length 1 10) []) (one Severity.Error (Kind.Length 1 20) []) "A ~ 1 PID-8 LENGTH 1 10 -> 1 20\n"
    ∷ differ (one Severity.Error (Kind.Time 8) []) (one Severity.Error (Kind.Time 14) []) "A ~ 1 PID-8 TIME 8 -> 14\n"
    ∷ differ
    (one Severity.Error (Kind.Code 1) sexes)
    (one Severity.Warning (Kind.Code 1) ((bytes "X" ∷ bytes "F" ∷ bytes "Y" ∷ []) ∷ []))
    "A ~ 1 PID-8 CODE E -> W\nA ~ 1 PID-8 CODE -M -U +X +Y\n"
    -- a rule that is gone, one that moved, one that is new: another kind is another rule
    ∷ differ
    (page "A" (rule pid 8 0 Severity.Warning (Kind.Code 1) ∷ name ∷ []) sexes ∷ [])
    (page "A" (name ∷ rule pid 8 0 Severity.Error (Kind.Length 1 2) ∷ []) [] ∷ [])
    "A - 1 PID-8 CODE W -F -M -U\nA # 2 -> 1 PID-5.1 REQUIRED\nA + 2 PID-8 LENGTH E 1 2\n"
    -- two of one place and kind belong together in their order, and the last has no counterpart
    ∷ differ
    (page "A" (dose Severity.Error ∷ name ∷ dose Severity.Warning ∷ dose Severity.Informational ∷ []) sexes ∷ [])
    (page "A" (dose Severity.Error ∷ dose Severity.Informational ∷ name ∷ []) sexes ∷ [])
    "A # 2 -> 3 PID-5.1 REQUIRED\nA ~ 3 RXA-9 CODE W -> I\nA # 3 -> 2 RXA-9 CODE\nA - 4 RXA-9 CODE I -F -M -U\n"
    -- sections
    ∷ differ
    (page "A" [] [] ∷ page "B" (name ∷ []) [] ∷ [])
    (page "C" [] [] ∷ page "B" (name ∷ dose Severity.Warning ∷ []) sexes ∷ [])
    "- section A\nB + 2 RXA-9 CODE W +F +M +U\n+ section C\n"
    -- rows 7 and 8 of one book or the other, and an output that is too short
    ∷ refused (bytes "VXC") (bytes "VXC") 7 1
    ∷ refused (bytes "VXB" ++ (0 ∷ 2 ∷ 1 ∷ [])) (bytes "VXC") 8 1
    ∷ refused (book_bytes (page "A" [] [] ∷ [])) (bytes "VXC") 7 2
    ∷ refused (book_bytes (page "A" [] [] ∷ [])) (bytes "VXB" ++ (0 ∷ 2 ∷ 1 ∷ [])) 8 2
    ∷ refused (book_bytes (page "A" [] [] ∷ [])) (book_bytes (page "B" [] [] ∷ [])) 55 24
    ∷ refused (book_bytes (page "A" [] [] ∷ [])) (book_bytes (page "A" [] [] ∷ [])) 0 0
    ∷ []

samples-right : all_right samples ≡ true
unfolding samples all_right right rule page one sexes name dose is_in all same among begins occurrences flat_map text code_set rule_in section distinct sections head_right under decoded malformed other_version book_bytes times segment_names name_bytes number_from name_of_letters place_fits severity_of kind_of rule_said rule_of keep count_from last_digits decimal joined marked written kind_names printed place_word numbered counterpart all_among gone rule_line changes old_lines new_lines section_lines old_section new_section differences diff_of
samples-right = refl
