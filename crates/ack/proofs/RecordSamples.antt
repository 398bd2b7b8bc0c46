-- Records, and what grading and writing make of them: tables under one statement each, which antt computes.
use Prim.Native.Nat.{ℕ, ◌-◌}
use Prim.Native.Char.{code}
use mathlib.Core.Path.{◌≡◌, refl}
use mathlib.Core.Bool.{Bool, true, false, not, ◌&&◌}
use mathlib.Core.List.{List, [], ◌∷◌, ◌++◌, flat_map}
use lib.Dec.{eqb}
use lib.ListN.{length, replicate}
use Rattle.hl7.specs.Text.{bytes}
use Rattle.hl7.specs.Bytes.{is_in, distinct as apart, all, same, among, begins}
use Rattle.hl7.specs.Cut.{cut, ahead, but_last, start_at}
use Rattle.hl7.specs.Place.{delims_of, nth_of, cut_unless, part_of_field, never_cut, component_of, repetitions_of, in_field, in_segment}
use Rattle.hl7.specs.Delimiters.{may_delimit, may_cut, opens}
use Rattle.hl7.specs.Refusals.{Told, first_row, wrong_bytes, has_form, wrong_segments, form_rows, message_rows}
use Rattle.grade.specs.Rule.{segment_names, number_from, name_of_letters, name_bytes, place_fits, severity_of, kind_of, rule_said, rule_of}
use Rattle.grade.specs.Reader.{times}
use Rattle.grade.specs.Book.{text, code_set, rule_in, section, distinct, sections, head_right, decoded, under, malformed, other_version, no_section}
use Rattle.grade.specs.Digits.{count_within, digit_run}
use Rattle.grade.specs.Calendar.{month_length, is_real_date}
use Rattle.grade.specs.Values.{is_date, is_year_and_pairs, is_zone, is_zone_or_none, is_fraction, is_time, is_stamp}
use Rattle.grade.specs.Order.{name_before, earlier, may_follow}
use Rattle.grade.specs.Broken.{is_value, broken, judges, breaks_rule}
use Rattle.grade.specs.Strict.{keep, count_from, pairs_from}
use Rattle.grade.specs.Findings.{findings}
use Rattle.grade.specs.Header.{msh_at, is_processing_id, header_of, header_findings}
use Rattle.grade.specs.Admission.{book_rows, admit_rows}
use Rattle.grade.specs.Grading.{section_for, findings_by}
use Rattle.grade.specs.Deciding.{has}
use Rattle.grade.specs.Range.{in_range, all_in_range}
use Rattle.grade.specs.Table.{grade_into}
use Rattle.grade.specs.declared.finding.Finding.{Finding}
use Rattle.grade.proofs.BookSamples.{head, rule, sized, part, book}
use Rattle.ack.specs.Decimal.{last_digits, decimal}
use Rattle.ack.specs.Layout.{own_byte, marked, joined, copied, msh_line, msa_line, component_parts, value_parts, place_parts, code_text, err_line, ack_bytes}
use Rattle.ack.specs.Records.{write_from}

record_of : (code name ordinal field repetition component rule severity : ℕ) → Finding
record_of code name ordinal field repetition component rule severity =
    record { ordinal = ordinal; repetition = repetition; rule = rule; code = code; name = name; field = field; component = component; severity = severity }

-- ---- in range, each bound on both sides
-- a rule's record and a header's, with one field changed
ranges :
    (in_range (record_of 101 1 1 1 1 0 1 (code "E")) && in_range (record_of 103 10 32768 99 32768 20 256 (code "I")) && in_range (record_of 102 2 1 3 1 1 7 (code "W"))
    && not (in_range (record_of 102 0 1 3 1 1 7 (code "E"))) && not (in_range (record_of 102 11 1 3 1 1 7 (code "E")))
    && not (in_range (record_of 102 2 0 3 1 1 7 (code "E"))) && not (in_range (record_of 102 2 32769 3 1 1 7 (code "E")))
    && not (in_range (record_of 102 2 1 0 1 1 7 (code "E"))) && not (in_range (record_of 102 2 1 100 1 1 7 (code "E")))
    && not (in_range (record_of 102 2 1 3 0 1 7 (code "E"))) && not (in_range (record_of 102 2 1 3 32769 1 7 (code "E")))
    && not (in_range (record_of 102 2 1 3 1 21 7 (code "E")))
    && not (in_range (record_of 102 2 1 3 1 1 0 (code "E"))) && not (in_range (record_of 102 2 1 3 1 1 257 (code "E")))
    && not (in_range (record_of 102 2 1 3 1 1 7 (code "A"))) && not (in_range (record_of 102 2 1 3 1 1 7 0))
    && not (in_range (record_of 99 2 1 3 1 1 7 (code "E"))) && not (in_range (record_of 104 2 1 3 1 1 7 (code "E")))
    && not (in_range (record_of 199 2 1 3 1 1 0 (code "E"))) && not (in_range (record_of 204 2 1 3 1 1 0 (code "E")))
    -- a header code: rule 0 and E, at any of the ten names
    && in_range (record_of 200 1 1 9 1 1 0 (code "E")) && in_range (record_of 203 10 2 99 3 20 0 (code "E"))
    && not (in_range (record_of 200 1 1 9 1 1 1 (code "E"))) && not (in_range (record_of 201 1 1 9 1 2 0 (code "W"))) && not (in_range (record_of 202 0 0 11 1 1 0 (code "E")))
    -- the order: at a segment, or at the end, with nothing else
    && in_range (record_of 100 6 1 0 0 0 0 (code "E")) && in_range (record_of 100 10 32768 0 0 0 0 (code "E")) && in_range (record_of 100 0 0 0 0 0 0 (code "E"))
    && not (in_range (record_of 100 6 0 0 0 0 0 (code "E"))) && not (in_range (record_of 100 0 1 0 0 0 0 (code "E"))) && not (in_range (record_of 100 6 32769 0 0 0 0 (code "E")))
    && not (in_range (record_of 100 11 1 0 0 0 0 (code "E"))) && not (in_range (record_of 100 6 1 0 0 0 0 (code "W")))
    && not (in_range (record_of 100 6 1 1 0 0 0 (code "E"))) && not (in_range (record_of 100 6 1 0 1 0 0 (code "E")))
    && not (in_range (record_of 100 6 1 0 0 1 0 (code "E"))) && not (in_range (record_of 100 6 1 0 0 0 1 (code "E"))))
    ≡ true
unfolding record_of in_range
ranges = refl

-- ---- grading: PID-8 REQUIRED W and PID-5 REQUIRED I are broken by a PID without them, and an ORC must have an RXA
severities : List ℕ
severities = book 1 (part "AX" 2 0 (rule "PID" 8 0 1 "W" 0 0 0 ++ rule "PID" 5 0 1 "I" 0 0 0))

msh : List ℕ
msh = bytes "MSH|^~\\&||||AX|||VXU^V04|M1|P|2.5.1\r"

two : List ℕ
two = msh ++ bytes "PID|1\r"

told_is_lem : Told → ℕ → ℕ → Bool
told_is_lem t number detail = eqb t.number number && eqb t.detail detail

same_record : Finding → Finding → Bool
same_record f g =
    eqb f.ordinal g.ordinal && eqb f.repetition g.repetition && eqb f.rule g.rule && eqb f.code g.code && eqb f.name g.name
    && eqb f.field g.field && eqb f.component g.component && eqb f.severity g.severity

same_records : List Finding → List Finding → Bool
same_records [] [] = true
same_records [] (g ∷ gs) = false
same_records (f ∷ fs) [] = false
same_records (f ∷ fs) (g ∷ gs) = same_record f g && same_records fs gs

-- records of values that no finding has
filler : Finding
filler = record_of 9 9 9 9 9 9 9 9

grades : ℕ → (m : List ℕ) → ℕ → ℕ → List Finding → Bool
grades room m number detail table = let g = grade_into m severities (replicate room filler) in told_is_lem g.told number detail && same_records g.table table

first : Finding
first = record_of 101 2 1 8 1 0 1 (code "W")

second : Finding
second = record_of 101 2 1 5 1 0 2 (code "I")

gradings :
    (grades 0 two 12 2 [] && grades 1 two 12 2 (filler ∷ []) && grades 2 two 0 2 (first ∷ second ∷ []) && grades 3 two 0 2 (first ∷ second ∷ filler ∷ [])
    && grades 0 (msh ++ bytes "PID|||||ROE|||F\r") 0 0 [] && grades 1 (msh ++ bytes "PID|||||ROE|||F\r") 0 0 (filler ∷ [])
    && grades 1 msh 0 1 (record_of 100 0 0 0 0 0 0 (code "E") ∷ [])
    && grades 1 (bytes "MSH|^~\\&||||AX|||ADT^V04|M1|P|2.5.1\r") 0 1 (record_of 200 1 1 9 1 1 0 (code "E") ∷ [])
    && grades 1 (bytes "MSH|^~\\&||||AY|||VXU^V04|M1|P|2.5.1\r") 9 0 (filler ∷ []) && grades 1 [] 1 0 (filler ∷ []))
    ≡ true
unfolding record_of severities msh two told_is_lem same_record same_records filler grades first second grade_into head rule sized part book all same among begins is_in apart may_delimit may_cut opens cut ahead but_last start_at delims_of nth_of cut_unless part_of_field never_cut component_of repetitions_of in_field in_segment
    first_row wrong_bytes has_form wrong_segments form_rows message_rows segment_names number_from name_of_letters place_fits severity_of kind_of rule_said rule_of times text code_set rule_in section distinct sections head_right
    decoded under malformed other_version no_section count_within digit_run month_length is_real_date is_date is_year_and_pairs is_zone is_zone_or_none is_fraction is_time is_stamp name_before earlier may_follow is_value broken judges breaks_rule keep count_from pairs_from findings has
    msh_at is_processing_id header_of header_findings book_rows admit_rows section_for findings_by
gradings = refl

-- ---- writing
stamp : List ℕ
stamp = bytes "20250113120000+0000"

front : (verdict : List ℕ) → List ℕ
front verdict = bytes "MSH|^~\\&||AX|||20250113120000+0000||ACK^V04^ACK|7|P|2.5.1|||NE|NE|||||Z23^CDCPHINVS\rMSA|A" ++ (verdict ++ bytes "|M1\r")

-- an output of 300 bytes
writes : (table : List Finding) → ℕ → (ack : List ℕ) → Bool
writes table count ack = let o = write_from two table count stamp 7 (replicate 300 46) in told_is_lem o.told 0 (length ack) && same o.output (ack ++ replicate (300 - length ack) 46)

refuses : (m : List ℕ) → (table : List Finding) → (count : ℕ) → (stamp : List ℕ) → (room number detail : ℕ) → Bool
refuses m table count s room number detail = let o = write_from m table count s 7 (replicate room 46) in told_is_lem o.told number detail && same o.output (replicate room 46)

header_record : Finding
header_record = record_of 203 9 3 5 2 0 0 (code "E")

writings :
    -- MSA-1 from the records alone: none, an I, a W, a header code among others, and what is not counted
    (writes [] 0 (front (bytes "A")) && writes (filler ∷ filler ∷ []) 0 (front (bytes "A"))
    && writes (second ∷ filler ∷ []) 1 (front (bytes "A") ++ bytes "ERR||PID^1^5^1|101^Required field missing^HL70357|I|2^^L\r")
    && writes (first ∷ second ∷ []) 1 (front (bytes "E") ++ bytes "ERR||PID^1^8^1|101^Required field missing^HL70357|W|1^^L\r")
    && writes (second ∷ header_record ∷ []) 2 (front (bytes "R") ++ bytes "ERR||PID^1^5^1|101^Required field missing^HL70357|I|2^^L\rERR||OBX^3^5^2|203^Unsupported version id^HL70357|E|0^^L\r")
    -- 13: the count exceeds the table, or a counted record is out of range, before 10 and 11 and after 6
    && refuses two [] 1 stamp 300 13 0 && refuses two (first ∷ []) 2 stamp 300 13 0 && refuses two (first ∷ []) 4294967295 [] 0 13 0
    && refuses two (first ∷ filler ∷ []) 2 stamp 300 13 0 && refuses two (filler ∷ []) 1 [] 0 13 0
    && refuses two (first ∷ []) 1 [] 300 10 0 && refuses two (first ∷ []) 1 [] 0 10 0 && refuses two [] 0 stamp 93 11 94
    && refuses (bytes "MSH|^~\\&||||AX|||VXU^V04||P|2.5.1\rPID\r") (filler ∷ []) 1 [] 0 6 0 && refuses [] (filler ∷ []) 2 [] 0 1 0
    -- the message's section and its header findings do not matter
    && refuses (bytes "MSH|^~\\&||||AY|||ADT^V04|M1|P|2.5.1\r") [] 0 stamp 93 11 94)
    ≡ true
unfolding record_of severities msh two told_is_lem same_record same_records filler first second stamp front writes refuses header_record write_from in_range all_in_range last_digits decimal own_byte marked joined copied msh_line msa_line
    component_parts value_parts place_parts code_text err_line ack_bytes flat_map name_bytes segment_names all same among begins is_in apart may_delimit may_cut opens cut ahead but_last start_at delims_of nth_of cut_unless part_of_field never_cut component_of repetitions_of in_field in_segment
    first_row wrong_bytes has_form wrong_segments form_rows message_rows count_within digit_run month_length is_real_date is_date is_year_and_pairs is_zone is_zone_or_none is_fraction is_time is_stamp has
writings = refl
