-- Inner: only contracts inside the crates use these names; nothing here has to be believed.
-- What is still to come at a place of the walk, with which the stepper's contracts are stated: each level is the list of what remains, read from the
-- position that the cursor holds. `start_left` and `start-all` (proofs/Stepping.antt) tie it to the findings. Assumes nothing.
use Rattle.std.specs.Prelude.{ℕ, suc, ◌+◌, ◌-◌, ◌≤◌, ◌<◌, ◌≡◌, Bool, true, false, cond, ◌&&◌, List, [], ◌∷◌, ◌++◌, Option, Some, None, map, eqb, length, get_or, drop, set}
use Rattle.hl7.specs.Cut.{cut, but_last}
use Rattle.hl7.specs.Noted.{Noted}
use Rattle.hl7.specs.Spans.{between, parts_from}
use Rattle.hl7.specs.Bytes.{all, differs}
use Rattle.hl7.specs.Place.{carriage_return, is_msh, field_of}
use Rattle.hl7.specs.Refusals.{message_limit}
use Rattle.hl7.specs.declared.place.Delims.{Delims}
use Rattle.grade.specs.Rule.{the_end, msh, pid, counted, other_number, no_rule}
use Rattle.grade.specs.Standing.{rules_in, sets_in, Holds, Placed, SetStands, codes_at}
use Rattle.grade.specs.Linked.{Linked}
use Rattle.grade.specs.Order.{name_of, may_follow}
use Rattle.grade.specs.Broken.{judges, broken, breaks_rule}
use Rattle.grade.specs.Findings.{is_about, value_in, values_of, order_finding, value_finding, findings}
use Rattle.grade.specs.Header.{any_wrong, header_findings, header_or}
use Rattle.grade.specs.declared.rule.Kind.{Kind}
use Rattle.grade.specs.declared.rule.Kind.TheVariants.{Required, Length, Number, Date, Time, Code}
use Rattle.grade.specs.declared.rule.Rule.{Rule}
use Rattle.grade.specs.declared.walk.Section.{Section}
use Rattle.grade.specs.declared.finding.Finding.{Finding}
use Rattle.grade.specs.declared.header.Header.{Header}
use Rattle.grade.specs.declared.within.Here.{Here}
use Rattle.grade.specs.declared.within.Field.{Field}
use Rattle.grade.specs.declared.within.Spot.{Spot}
use Rattle.grade.specs.declared.within.Broken.{Broken}
use Rattle.grade.specs.declared.within.Judged.{Judged}
use Rattle.grade.specs.declared.step.Cursor.{Cursor}
use Rattle.grade.specs.declared.step.Entered.{Entered}

-- ---- the codes of a kind's set
-- where a kind has a set, its codes can be read at a position of the book
abbrev pub CodesStand : List ℕ → Kind → ℕ → Type 0
CodesStand b Required at = Unit {0}
CodesStand b (Length low high) at = Unit {0}
CodesStand b Number at = Unit {0}
CodesStand b Date at = Unit {0}
CodesStand b (Time digits) at = Unit {0}
CodesStand b (Code set) at = SetStands b at

-- and they are the codes of that set
abbrev pub CodesAre : List ℕ → List (List (List ℕ)) → Kind → ℕ → Type 0
CodesAre b sets Required at = Unit {0}
CodesAre b sets (Length low high) at = Unit {0}
CodesAre b sets Number at = Unit {0}
CodesAre b sets Date at = Unit {0}
CodesAre b sets (Time digits) at = Unit {0}
CodesAre b sets (Code set) at = SetStands b at × (codes_at b at ≡ get_or sets (set - 1) [])

-- a rule is broken by the value at repetition r, its codes standing in the book at `codes`
abbrev pub breaks_by : List ℕ → Rule → ℕ → ℕ → List ℕ → Bool
breaks_by b rule codes r value = judges rule.kind r && broken rule.kind (codes_at b codes) value

-- ---- one rule
-- the numbers of the values that break, where `passed` values came before
unfoldable pub broken_values : (ℕ → List ℕ → Bool) → ℕ → List (List ℕ) → List ℕ
broken_values breaks passed [] = []
broken_values breaks passed (v ∷ vs) =
    cond (breaks passed v) (suc passed ∷ broken_values breaks (suc passed) vs) (broken_values breaks (suc passed) vs)

-- those of the repetitions that begin at `at` or later in a field that is cut
abbrev pub broken_from : Delims → List ℕ → List ℕ → Rule → ℕ → ℕ → ℕ → List ℕ
broken_from d fld b rule codes at passed = broken_values (breaks_by b rule codes) passed (map (value_in d false rule) (parts_from d.tilde fld at))

-- r is the first of the numbers l, and where the others are found
abbrev pub NextValue : Delims → List ℕ → List ℕ → Rule → ℕ → List ℕ → Option Broken → Type 0
NextValue d fld b rule codes l (Some r) = (l ≡ r.repetition ∷ broken_from d fld b rule codes r.next r.repetition) × (r.repetition ≤ r.next)
NextValue d fld b rule codes l None = l ≡ []

-- what one rule gives at a segment, and what the rules give of which i came before
abbrev pub of_rule : Delims → List (List (List ℕ)) → ℕ → ℕ → List ℕ → ℕ → Rule → List Finding
of_rule d sets name ordinal segment i rule =
    cond (is_about rule name) (map (value_finding name ordinal rule i) (broken_values (breaks_rule sets rule) 0 (values_of d rule segment))) []

unfoldable pub of_rules : Delims → List (List (List ℕ)) → ℕ → ℕ → List ℕ → ℕ → List Rule → List Finding
of_rules d sets name ordinal segment i [] = []
of_rules d sets name ordinal segment i (rule ∷ rules) =
    of_rule d sets name ordinal segment (suc i) rule ++ of_rules d sets name ordinal segment (suc i) rules

-- what a rule still gives from a spot on, where so many repetitions were passed
abbrev pub left_of : Delims → List (List (List ℕ)) → ℕ → ℕ → List ℕ → Spot → Rule → List Finding
left_of d sets name ordinal segment spot rule =
    map (value_finding name ordinal rule (spot.rule + 1))
    (broken_values (breaks_rule sets rule) spot.passed
    (map (value_in d false rule) (parts_from d.tilde (field_of d segment rule.place.field).bytes spot.at)))

-- and the rules after it
unfoldable pub left_from : Delims → List (List (List ℕ)) → ℕ → ℕ → List ℕ → Spot → List Rule → List Finding
left_from d sets name ordinal segment spot [] = []
left_from d sets name ordinal segment spot (rule ∷ rules) =
    left_of d sets name ordinal segment spot rule ++ of_rules d sets name ordinal segment (spot.rule + 1) rules

-- before the first repetition of rule i
abbrev pub first_spot : ℕ → Spot
first_spot i = record { rule = i; at = 0; passed = 0; field = record { codes = 0; start = 0; end = 0 } }

-- ---- one segment
abbrev pub bytes_of : List ℕ → Here → List ℕ
bytes_of m here = between m here.start here.end

-- a segment that can be read, of a counted name; that is MSH exactly where its bytes begin with MSH
pub record HereStands (m : List ℕ) (here : Here) : Type 0 where
  pub forward : here.start ≤ here.end
  pub inside : here.end ≤ length m
  pub counts : counted here.name ≡ true
  pub named : is_msh (bytes_of m here) ≡ eqb here.name msh

-- so many of a segment's parts are noted, and where `single` says so it has no tilde
pub record Parted (d : Delims) (segment starts : List ℕ) (count : ℕ) (single : Bool) : Type 0 where
  pub noted : Noted d.bar segment starts count
  pub untilded : single ≡ true → all (differs d.tilde) segment ≡ true

-- where the field of rule i stands in the message, and its codes in the book
pub record Fielded (d : Delims) (m b : List ℕ) (s : Section) (here : Here) (i : ℕ) (f : Field) : Type 0 where
  pub forward : f.start ≤ f.end
  pub inside : f.end ≤ length m
  pub bytes : (field_of d (bytes_of m here) (get_or (rules_in b s) i no_rule).place.field).bytes ≡ between m f.start f.end
  pub untilded : here.single ≡ true → all (differs d.tilde) (between m f.start f.end) ≡ true
  pub codes : CodesAre b (sets_in b s) (get_or (rules_in b s) i no_rule).kind f.codes

-- no more repetitions were passed than bytes; the spot's rule is one about the segment, which then is parted, or past the last one
pub record SpotStands (d : Delims) (m b : List ℕ) (s : Section) (starts : List ℕ) (here : Here) (spot : Spot) : Type 0 where
  pub passed : spot.passed ≤ spot.at
  pub about : spot.rule < s.rule_count → (get_or (rules_in b s) spot.rule no_rule).place.segment ≡ here.name
  pub parted : spot.rule < s.rule_count → Parted d (bytes_of m here) starts here.count here.single
  pub known : 1 ≤ spot.passed → Fielded d m b s here spot.rule spot.field

-- what grading is given: a short message, a section of a book, the places of its sets, the links of its rules
pub record Given (m b : List ℕ) (s : Section) (sets links : List ℕ) : Type 0 where
  pub short : length m ≤ message_limit
  pub holds : Holds b s
  pub placed : Placed b s sets
  pub linked : Linked (rules_in b s) links

-- what the rules give of which i came before
abbrev pub rules_from : Delims → List ℕ → List ℕ → Section → Here → ℕ → List Finding
rules_from d m b s here i = of_rules d (sets_in b s) here.name here.ordinal (bytes_of m here) i (drop i (rules_in b s))

-- what a segment still gives from a spot on
abbrev pub segment_rest : Delims → List ℕ → List ℕ → Section → Here → Spot → List Finding
segment_rest d m b s here spot = left_from d (sets_in b s) here.name here.ordinal (bytes_of m here) spot (drop spot.rule (rules_in b s))

-- what the order gives at a name after the counted name `last`; `out` says whether it is broken there
abbrev pub of_order : (ℕ → ℕ → Bool) → ℕ → ℕ → ℕ → List Finding
of_order out last name ordinal = cond (out last name) (order_finding name ordinal ∷ []) []

abbrev pub of_segment : (ℕ → ℕ → Bool) → Delims → List ℕ → List ℕ → Section → Here → ℕ → List Finding
of_segment out d m b s here last = of_order out last here.name here.ordinal ++ rules_from d m b s here 0

-- r is the first finding that the rule at a spot still gives, and where the others are found, if there are any
abbrev pub NextOfRule : Delims → List ℕ → List ℕ → Section → Here → Spot → Judged → Type 0
NextOfRule d m b s here spot (Judged.Found f then) =
    (left_of d (sets_in b s) here.name here.ordinal (bytes_of m here) spot (get_or (rules_in b s) spot.rule no_rule)
    ≡ f ∷ left_of d (sets_in b s) here.name here.ordinal (bytes_of m here) then (get_or (rules_in b s) spot.rule no_rule))
    × (then.rule ≡ spot.rule) × (then.passed ≤ then.at) × Fielded d m b s here spot.rule then.field
NextOfRule d m b s here spot (Judged.Last f) = left_of d (sets_in b s) here.name here.ordinal (bytes_of m here) spot (get_or (rules_in b s) spot.rule no_rule) ≡ f ∷ []
NextOfRule d m b s here spot Judged.Nothing = left_of d (sets_in b s) here.name here.ordinal (bytes_of m here) spot (get_or (rules_in b s) spot.rule no_rule) ≡ []

abbrev pub NextWithin : Delims → List ℕ → List ℕ → Section → List ℕ → Here → List Finding → Option (Finding × Spot) → Type 0
NextWithin d m b s starts here l (Some (f, then)) = (l ≡ f ∷ segment_rest d m b s here then) × SpotStands d m b s starts here then
NextWithin d m b s starts here l None = l ≡ []

-- ---- the segments
-- counts and last stand for the segments before: how many there were of each name, and the last counted name
unfoldable pub grade_segments : (ℕ → ℕ → Bool) → Delims → List Rule → List (List (List ℕ)) → List ℕ → ℕ → List (List ℕ) → List Finding
grade_segments out d rules sets counts last [] = of_order out last the_end 0
grade_segments out d rules sets counts last (segment ∷ segments) =
    cond (counted (name_of segment))
    (of_order out last (name_of segment) (suc (get_or counts (name_of segment) 0))
    ++ (of_rules d sets (name_of segment) (suc (get_or counts (name_of segment) 0)) segment 0 rules
    ++ grade_segments out d rules sets (set counts (name_of segment) (suc (get_or counts (name_of segment) 0))) (name_of segment) segments))
    (grade_segments out d rules sets counts last segments)

-- what the segments give that begin at `at` or later
abbrev pub grade_from : (ℕ → ℕ → Bool) → Delims → List ℕ → List ℕ → Section → ℕ → ℕ → List ℕ → List Finding
grade_from out d m b s at last counts = grade_segments out d (rules_in b s) (sets_in b s) counts last (but_last (cut carriage_return (drop at m)))

-- no more segments were counted than bytes passed, so a count fits
pub record CountsStand (m : List ℕ) (at : ℕ) (counts : List ℕ) : Type 0 where
  pub inside : at ≤ length m
  pub counted : (k : ℕ) → get_or counts k 0 ≤ at

-- ---- all findings
-- by a section of a book, where the header says h
abbrev pub findings_in : List ℕ → Section → Header → List ℕ → List Finding
findings_in b s h m = header_or h (findings may_follow (rules_in b s) (sets_in b s) m)

-- ---- the cursor
-- what grading still gives: of the present segment, then of the segments after it, those before having been counted
abbrev pub grade_rest : (ℕ → ℕ → Bool) → Delims → List ℕ → List ℕ → Section → List ℕ → Cursor → List Finding
grade_rest out d m b s counts c = segment_rest d m b s c.here c.spot ++ grade_from out d m b s c.next c.last counts

-- what is still to come: of the header, then of that
abbrev pub rest : (ℕ → ℕ → Bool) → Delims → List ℕ → List ℕ → Section → List ℕ → Cursor → List Finding
rest out d m b s counts c = header_findings c.header ++ grade_rest out d m b s counts c

-- no header check fails
abbrev pub none_wrong : Header
none_wrong = record { type_wrong = false; event_wrong = false; processing_wrong = false; version_wrong = false }

-- a cursor that `start` and `next` hand out, with what they leave in what is lent to them
pub record Stands (d : Delims) (m b : List ℕ) (s : Section) (starts counts : List ℕ) (c : Cursor) : Type 0 where
  pub here : HereStands m c.here
  pub spot : SpotStands d m b s starts c.here c.spot
  pub passed : CountsStand m c.next counts

-- a cursor between two segments: nothing is left of the one before, all of whose `count` rules were judged
abbrev pub between_at : Header → ℕ → ℕ → ℕ → Cursor
between_at header count next last =
    record {
      header = header;
      here = record { start = 0; end = 0; name = pid; ordinal = 0; count = 0; single = false };
      spot = first_spot count;
      next = next;
      last = last;
    }

-- before the first finding: where the header is wrong, behind the last segment, with no counted name before, so that nothing follows its findings
abbrev pub cursor_at_start : Header → ℕ → ℕ → Cursor
cursor_at_start header count end = between_at header count (cond (any_wrong header) end 0) other_number

-- the cursor at a spot of its segment, with the header checks that are left
abbrev pub moved_to : Cursor → Header → Spot → Cursor
moved_to c header spot = record { header = header; here = c.here; spot = spot; next = c.next; last = c.last }

-- what opening gives at the end of the message, after the counted name `last`
abbrev pub end_by : Bool → Cursor → Entered
end_by true c = Entered.Order (order_finding the_end 0) c
end_by false c = Entered.End

abbrev pub end_entered : (ℕ → ℕ → Bool) → ℕ → ℕ → ℕ → Entered
end_entered out count at last = end_by (out last the_end) (between_at none_wrong count at other_number)

-- a cursor in the segment from `at` to `stop`, before its first rule
abbrev pub entered_at : ℕ → ℕ → ℕ → ℕ → ℕ → ℕ → Bool → Cursor
entered_at at stop name ordinal first count single =
    record {
      header = none_wrong;
      here = record { start = at; end = stop; name = name; ordinal = ordinal; count = count; single = single };
      spot = first_spot first;
      next = stop + 1;
      last = name;
    }

-- it is that cursor, and where the segment has rules its parts are noted
pub record EnteredAt (d : Delims) (m starts : List ℕ) (rules first at stop name ordinal : ℕ) (c : Cursor) : Type 0 where
  pub count : ℕ
  pub single : Bool
  pub is : c ≡ entered_at at stop name ordinal first count single
  pub parted : first < rules → Parted d (between m at stop) starts count single

abbrev pub Enters : (ℕ → ℕ → Bool) → Delims → List ℕ → List ℕ → ℕ → ℕ → ℕ → ℕ → ℕ → ℕ → ℕ → Entered → Type 0
Enters out d m starts rules first at stop name ordinal last (Entered.Order f c) =
    (out last name ≡ true) × (f ≡ order_finding name ordinal) × EnteredAt d m starts rules first at stop name ordinal c
Enters out d m starts rules first at stop name ordinal last (Entered.Rules c) = (out last name ≡ false) × EnteredAt d m starts rules first at stop name ordinal c
Enters out d m starts rules first at stop name ordinal last Entered.End = ⊥

-- the next counted segment after `from` was opened, or the end, where l is still to come
abbrev pub Opens : (ℕ → ℕ → Bool) → Delims → List ℕ → List ℕ → Section → List ℕ → List ℕ → ℕ → List Finding → Entered → Type 0
Opens out d m b s starts counts from l (Entered.Order f c) = (l ≡ f ∷ rest out d m b s counts c) × Stands d m b s starts counts c
Opens out d m b s starts counts from l (Entered.Rules c) = (l ≡ grade_rest out d m b s counts c) × Stands d m b s starts counts c × (from < c.next)
Opens out d m b s starts counts from l Entered.End = l ≡ []

-- a step from a cursor at which l is still to come
abbrev pub Steps : (ℕ → ℕ → Bool) → Delims → List ℕ → List ℕ → Section → List ℕ → List ℕ → List Finding → Option (Finding × Cursor) → Type 0
Steps out d m b s starts counts l (Some (f, c)) = (l ≡ f ∷ rest out d m b s counts c) × Stands d m b s starts counts c
Steps out d m b s starts counts l None = l ≡ []
