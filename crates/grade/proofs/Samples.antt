-- The samples that the scope marks P, as one table under one statement, which antt computes. Assumes nothing.
use Prim.Native.Nat.{ℕ}
use Prim.Native.String.{String}
use mathlib.Core.Path.{◌≡◌, refl}
use mathlib.Core.Bool.{Bool, true, false, not, ◌&&◌}
use mathlib.Core.List.{List, [], ◌∷◌, ◌++◌}
use lib.Dec.{eqb}
use Rattle.hl7.specs.Text.{bytes}
use Rattle.hl7.specs.Bytes.{is_in, distinct, all, same, among, begins}
use Rattle.hl7.specs.Cut.{cut, ahead, but_last, start_at}
use Rattle.hl7.specs.Place.{delims_of, nth_of, cut_unless, part_of_field, never_cut, component_of, repetitions_of}
use Rattle.hl7.specs.Delimiters.{may_delimit, may_cut, opens}
use Rattle.hl7.specs.Refusals.{first_row, wrong_bytes, has_form, wrong_segments, form_rows, message_rows}
use Rattle.grade.specs.Rule.{the_end, orc, segment_names, number_from, name_of_letters}
use Rattle.grade.specs.Digits.{count_within, digit_run}
use Rattle.grade.specs.Calendar.{month_length, is_real_date}
use Rattle.grade.specs.Values.{is_unsigned, is_number, is_date}
use Rattle.grade.specs.Order.{name_before, earlier, may_follow}
use Rattle.grade.specs.Broken.{is_value, broken, judges, breaks_rule}
use Rattle.grade.specs.Strict.{keep, count_from, pairs_from}
use Rattle.grade.specs.Findings.{findings}
use Rattle.grade.specs.declared.rule.Kind.{Kind}
use Rattle.grade.specs.declared.rule.Kind.TheVariants.{Number, Date}
use Rattle.grade.specs.declared.finding.Finding.{Finding}

-- a message is refused by a number; a kind takes a value or breaks on it; segments, by name, give one order finding alone
data Sample : Type 0 where
  refused : String → ℕ → Sample
  takes breaks : Kind → String → Sample
  gives : List String → ℕ → ℕ → Sample

message : List String → List ℕ
message [] = []
message (name ∷ names) = bytes name ++ (13 ∷ message names)

-- the list has one finding, about the order, at the number-th segment of a name
is_order : List Finding → ℕ → ℕ → Bool
is_order [] name number = false
is_order (f ∷ []) name number = eqb f.code 100 && eqb f.name name && eqb f.ordinal number
is_order (f ∷ (g ∷ fs)) name number = false

right : Sample → Bool
right (refused text number) = eqb (first_row (message_rows (bytes text))).number number
right (takes kind text) = not (broken kind [] (bytes text))
right (breaks kind text) = broken kind [] (bytes text)
right (gives names name number) = is_order (findings may_follow [] [] (message names)) name number

all_right : List Sample → Bool
all_right [] = true
all_right (s ∷ samples) = right s && all_right samples

samples : List Sample
samples =
    refused "" 1
    ∷ refused "MSH||NDIIS" 4
    ∷ takes Date "20240229"
    ∷ takes Date "20000229"
    ∷ breaks Date "20230229"
    ∷ breaks Date "19000229"
    ∷ breaks Date "00000101"
    ∷ takes Number ".5"
    ∷ takes Number "5."
    ∷ breaks Number "+"
    ∷ breaks Number "1.2.3"
    ∷ gives ("MSH" ∷ "PID" ∷ "ORC" ∷ "ORC" ∷ "RXA" ∷ []) orc 2
    ∷ gives ("MSH" ∷ "PID" ∷ "ORC" ∷ []) the_end 0
    ∷ []

samples_hold : all_right samples ≡ true
unfolding samples all_right right is_order message distinct all same among begins may_delimit may_cut opens cut ahead but_last start_at delims_of nth_of cut_unless part_of_field never_cut component_of repetitions_of first_row wrong_bytes has_form wrong_segments form_rows message_rows segment_names number_from name_of_letters count_within digit_run month_length is_real_date is_unsigned is_number is_date name_before earlier is_in may_follow is_value broken judges breaks_rule keep count_from pairs_from findings
samples_hold = refl
