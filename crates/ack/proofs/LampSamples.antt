-- Messages and what the lamp says of them, by a section with a rule of each severity: one table under one statement, which antt computes.
use Prim.Native.Nat.{ℕ}
use mathlib.Core.Path.{◌≡◌, refl}
use mathlib.Core.Bool.{Bool, true, ◌&&◌}
use mathlib.Core.List.{List, [], ◌++◌}
use lib.Dec.{eqb}
use Rattle.hl7.specs.Text.{bytes}
use Rattle.hl7.specs.Bytes.{is_in, distinct as apart, all, same, among, begins}
use Rattle.hl7.specs.Cut.{cut, ahead, but_last, start_at}
use Rattle.hl7.specs.Place.{delims_of, nth_of, cut_unless, part_of_field, never_cut, component_of, repetitions_of, in_field, in_segment}
use Rattle.hl7.specs.Delimiters.{may_delimit, may_cut, opens}
use Rattle.hl7.specs.Refusals.{first_row, wrong_bytes, has_form, wrong_segments, form_rows, message_rows}
use Rattle.grade.specs.Rule.{segment_names, number_from, name_of_letters, place_fits, severity_of, kind_of, rule_said, rule_of}
use Rattle.grade.specs.Reader.{times}
use Rattle.grade.specs.Book.{text, code_set, rule_in, section, distinct, sections, head_right, decoded, under, malformed, other_version, no_section}
use Rattle.grade.specs.Digits.{count_within, digit_run}
use Rattle.grade.specs.Calendar.{month_length, is_real_date}
use Rattle.grade.specs.Values.{is_date, is_year_and_pairs, is_zone, is_zone_or_none, is_fraction, is_time, is_stamp}
use Rattle.grade.specs.Order.{name_before, earlier, may_follow}
use Rattle.grade.specs.Broken.{is_value, broken, judges, breaks_rule}
use Rattle.grade.specs.Strict.{keep, count_from, pairs_from}
use Rattle.grade.specs.Findings.{findings}
use Rattle.grade.specs.Header.{msh_at, is_processing_id, header_of, header_findings}
use Rattle.grade.specs.Admission.{book_rows, admit_rows}
use Rattle.grade.specs.Grading.{section_for, findings_by}
use Rattle.grade.proofs.BookSamples.{head, rule, sized, part, book}
use Rattle.grade.specs.Deciding.{has}
use Rattle.ack.specs.Lamp.{lamp_of}

-- PID-7.1 DATE E, PID-8 REQUIRED W, PID-5 REQUIRED I
severities : List ℕ
severities = book 1 (part "AX" 3 0 (rule "PID" 7 1 4 "E" 0 0 0 ++ (rule "PID" 8 0 1 "W" 0 0 0 ++ rule "PID" 5 0 1 "I" 0 0 0)))

msh : List ℕ
msh = bytes "MSH|^~\\&||||AX|||VXU^V04|M1|P|2.5.1\r"

stamp : List ℕ
stamp = bytes "20250113120000+0000"

says : ℕ → ℕ → (m stamp : List ℕ) → Bool
says number detail m s = eqb (lamp_of m severities s).number number && eqb (lamp_of m severities s).detail detail

samples :
    -- no finding, an I, a W, an E, an I after a W and after an E
    (says 0 1 (msh ++ bytes "PID|||||ROE||20240229|F\r") stamp
    && says 0 1 (msh ++ bytes "PID|||||||20240229|F\r") stamp
    && says 0 0 (msh ++ bytes "PID|||||ROE||20240229\r") stamp
    && says 0 0 (msh ++ bytes "PID|||||ROE||20240230|F\r") stamp
    && says 0 0 (msh ++ bytes "PID|||||||20240229\r") stamp
    && says 0 0 (msh ++ bytes "PID|||||||20240230|F\r") stamp
    -- an I at the first PID, a W at the second, where the order is broken too
    && says 0 0 (msh ++ bytes "PID||||||||F\rPID|||||ROE\r") stamp
    -- the order is broken at the end alone
    && says 0 0 msh stamp
    -- a header finding is no, whatever else is said
    && says 0 0 (bytes "MSH|^~\\&||||AX|||ADT^V04|M1|P|2.5.1\rPID|||||ROE||20240229|F\r") stamp
    && says 0 0 (bytes "MSH|^~\\&||||AX|||VXU^V04|M1|P|2.3\rPID|||||ROE||20240229|F\r") stamp
    -- refusals come before yes and no, and the stamp is the last of them
    && says 10 0 (msh ++ bytes "PID|||||ROE||20240229|F\r") (bytes "20250113120000")
    && says 10 0 (msh ++ bytes "PID|||||ROE||20240230|F\r") (bytes "20250229120000+0000")
    && says 9 0 (bytes "MSH|^~\\&||||AY|||VXU^V04|M1|P|2.5.1\rPID\r") []
    && says 6 0 (bytes "MSH|^~\\&||||AX|||VXU^V04||P|2.5.1\rPID\r") []
    && says 5 36 (msh ++ bytes "P\r") []
    && says 1 0 [] [])
    ≡ true
unfolding severities msh stamp says head rule sized part book lamp_of all same among begins is_in apart may_delimit may_cut opens cut ahead but_last start_at delims_of nth_of cut_unless part_of_field never_cut component_of repetitions_of in_field in_segment
    first_row wrong_bytes has_form wrong_segments form_rows message_rows segment_names number_from name_of_letters place_fits severity_of kind_of rule_said rule_of times text code_set rule_in section distinct sections head_right
    decoded under malformed other_version no_section count_within digit_run month_length is_real_date is_date is_year_and_pairs is_zone is_zone_or_none is_fraction is_time is_stamp name_before earlier may_follow is_value broken judges breaks_rule keep count_from pairs_from findings has
    msh_at is_processing_id header_of header_findings book_rows admit_rows section_for findings_by
samples = refl
