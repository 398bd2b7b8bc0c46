-- To be believed. When a finding's record is in range (A2). Assumes nothing.
use Rattle.std.specs.Prelude.{ℕ, Bool, true, cond, ◌&&◌, ◌||◌, List, [], ◌∷◌, eqb, leb}
use Prim.Native.Char.{code}
use Rattle.hl7.specs.Bytes.{within}
use Rattle.grade.specs.Limits.{rule_limit, field_limit, component_limit}
use Rattle.grade.specs.Rule.{the_end, counted}
use Rattle.grade.specs.Deciding.{is_header}
use Rattle.grade.specs.declared.finding.Finding.{Finding}

-- the highest number of a segment and of a repetition
abbrev pub number_limit : ℕ
number_limit = 32768

-- one of the eight
abbrev pub is_code : ℕ → Bool
is_code n = within 100 103 n || within 200 203 n

abbrev pub is_error : Finding → Bool
is_error f = eqb f.severity (code "E")

-- one of the three
abbrev pub has_severity : Finding → Bool
has_severity f = is_error f || eqb f.severity (code "W") || eqb f.severity (code "I")

-- one of the ten names, and a number of a segment
abbrev pub at_segment : Finding → Bool
at_segment f = counted f.name && within 1 number_limit f.ordinal

-- the end has no name and segment number 0
abbrev pub at_end : Finding → Bool
at_end f = eqb f.name the_end && eqb f.ordinal 0

-- the order: an E without field, repetition, component and rule, at a segment or at the end
abbrev pub order_in_range : Finding → Bool
order_in_range f =
    is_error f && eqb f.field 0 && eqb f.repetition 0 && eqb f.component 0 && eqb f.rule 0 && (at_segment f || at_end f)

-- a place in a segment
abbrev pub at_place : Finding → Bool
at_place f = at_segment f && within 1 field_limit f.field && within 1 number_limit f.repetition && leb f.component component_limit

-- a header code is an E and has rule 0; the other codes have a severity and a rule's number
abbrev pub value_in_range : Finding → Bool
value_in_range f = cond (is_header f) (is_error f && eqb f.rule 0) (has_severity f && within 1 rule_limit f.rule) && at_place f

unfoldable pub in_range : Finding → Bool
in_range f = is_code f.code && cond (eqb f.code 100) (order_in_range f) (value_in_range f)

-- all of them are
unfoldable pub all_in_range : List Finding → Bool
all_in_range [] = true
all_in_range (f ∷ findings) = in_range f && all_in_range findings
