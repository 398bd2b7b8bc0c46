-- To be believed. Numbers, places, kinds, severities and bounds as words. Every word is read: one that is no number counts as 0, which is no field, no component
-- that is written, no bound and no set. Assumes nothing.
use Rattle.std.specs.Prelude.{ℕ, suc, Bool, true, false, cond, not, ◌&&◌, ◌||◌, List, [], ◌∷◌, eqb, leb, ltb, length, get_or, drop, Option, Some, None}
use Prim.Native.Char.{code}
use Rattle.hl7.specs.Text.{bytes}
use Rattle.hl7.specs.Bytes.{within, is_digit, all}
use Rattle.hl7.specs.Cut.{cut, part_at}
use Rattle.hl7.specs.Number.{value_of}
use Rattle.grade.specs.Rule.{name_of_letters, place_fits, severity_of, time_digits}
use Rattle.grade.specs.declared.rule.Place.{Place}
use Rattle.grade.specs.declared.rule.Severity.{Severity}
use Rattle.booktext.specs.Lines.{number_from}

-- ---- numbers

-- one to three digits, the first not 0, at most 255
unfoldable pub is_number : List ℕ → Bool
is_number w = within 1 3 (length w) && all is_digit w && not (eqb (get_or w 0 0) (code "0")) && leb (value_of w) 255

unfoldable pub number_in : List ℕ → ℕ
number_in w = cond (is_number w) (value_of w) 0

-- ---- places: SEGMENT-FIELD or SEGMENT-FIELD.COMPONENT

-- what stands after the segment's three letters and the hyphen
abbrev pub numbers_of : List ℕ → List ℕ
numbers_of w = drop 4 w

abbrev pub field_word : List ℕ → List ℕ
field_word w = part_at (cut (code ".") (numbers_of w)) 0

-- a point follows the field
abbrev pub pointed : List ℕ → Bool
pointed w = ltb (length (field_word w)) (length (numbers_of w))

abbrev pub component_word : List ℕ → List ℕ
component_word w = drop (suc (length (field_word w))) (numbers_of w)

-- without a point the component is 0
unfoldable pub place_in : List ℕ → Place
place_in w =
    record {
      segment = name_of_letters (get_or w 0 0) (get_or w 1 0) (get_or w 2 0);
      field = number_in (field_word w);
      component = cond (pointed w) (number_in (component_word w)) 0;
    }

-- within the limits of a book's place; a component that is written is at least 1
unfoldable pub is_place : List ℕ → Bool
is_place w = eqb (get_or w 3 0) (code "-") && (not (pointed w) || leb 1 (place_in w).component) && place_fits (place_in w)

-- ---- severities and kinds

abbrev pub is_severity : Option Severity → Bool
is_severity (Some severity) = true
is_severity None = false

-- the letter E, W or I
unfoldable pub is_severity_word : List ℕ → Bool
is_severity_word w = eqb (length w) 1 && is_severity (severity_of (get_or w 0 0))

-- a kind's number in a book is its place here
unfoldable pub kind_names : List (List ℕ)
kind_names = bytes "REQUIRED" ∷ bytes "LENGTH" ∷ bytes "NUMBER" ∷ bytes "DATE" ∷ bytes "TIME" ∷ bytes "CODE" ∷ []

unfoldable pub kind_number : List ℕ → ℕ
kind_number w = number_from 1 w kind_names

abbrev pub a_length : ℕ
a_length = 2

abbrev pub a_time : ℕ
a_time = 5

abbrev pub a_code_kind : ℕ
a_code_kind = 6

-- ---- bounds

-- LENGTH has two numbers, low and high, TIME a number of digits, CODE the name of a set, the others none: so many words, and the first two of them
unfoldable pub bound_fits : ℕ → ℕ → List ℕ → List ℕ → Bool
bound_fits kind count low high =
    cond (eqb kind a_length) (eqb count 2 && within 1 (number_in high) (number_in low))
    (cond (eqb kind a_time) (eqb count 1 && time_digits (number_in low))
    (cond (eqb kind a_code_kind) (eqb count 1)
    (eqb count 0)))
