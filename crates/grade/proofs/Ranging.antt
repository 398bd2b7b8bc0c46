-- What grading gives is always in range. Assumes nothing.
use Prim.Native.Nat.{ℕ, zero, suc, ◌+◌, ◌-◌, ◌≤◌, ◌<◌}
use Prim.Native.Char.{code}
use mathlib.Core.Path.{◌≡◌, refl, sym, ap, subst, subst⁻¹, ◌∙◌}
use mathlib.Core.Bool.{Bool, true, false, cond, ◌&&◌, ◌||◌, and-true}
use mathlib.Core.List.{List, [], ◌∷◌, ◌++◌, map, Memᴰ}
use native.Mathlib.Decide.{dec_lt}
use native.Mathlib.Omega.{arith}
use borrow.Author.Tests.{eqb-true, leb-false, le-leb}
use lib.Dec.{T, eqb, leb}
use lib.ListN.{length, get_or, drop, length-take}
use Rattle.hl7.specs.Bytes.{within}
use Rattle.hl7.specs.Cut.{cut, part_at, end_from, but_last}
use Rattle.hl7.specs.Place.{delims_of, segments_of, carriage_return}
use Rattle.hl7.specs.Refusals.{message_limit, passes}
use Rattle.hl7.proofs.Comparing.{and_both}
use Rattle.hl7.proofs.Cutting.{cut-few}
use Rattle.hl7.proofs.Walking.{ended_step, ended_stop, ended-few}
use Rattle.grade.specs.Limits.{segment_count, rule_limit, field_limit, component_limit}
use Rattle.grade.specs.Rule.{the_end, msh, counted, error_code, severity_letter}
use Rattle.grade.specs.Order.{name_at, name_before, earlier, may_follow}
use Rattle.grade.specs.Findings.{is_about, order_finding, value_finding, findings, finding_of, finding_at, BreaksAt, rule_numbered, segment_at}
use Rattle.grade.specs.Header.{msh_of, header_of, header_finding, only_if, header_findings, any_wrong}
use Rattle.grade.specs.Admission.{admit_rows}
use Rattle.grade.specs.Grading.{findings_for}
use Rattle.grade.specs.Range.{number_limit, is_code, in_range, all_in_range}
use Rattle.grade.specs.Standing.{Holds, rules_in, sets_in}
use Rattle.grade.specs.Rest.{findings_in}
use Rattle.grade.specs.declared.rule.Severity.{Severity}
use Rattle.grade.specs.declared.rule.Kind.{Kind}
use Rattle.grade.specs.declared.rule.Place.{Place}
use Rattle.grade.specs.declared.rule.Rule.{Rule}
use Rattle.grade.specs.declared.walk.Section.{Section}
use Rattle.grade.specs.declared.header.Header.{Header}
use Rattle.grade.specs.declared.finding.Finding.{Finding}
use Rattle.grade.proofs.Holding.{PlaceFits, rules-length, rule_fits_lem, place_limits}
use Rattle.grade.proofs.Admitting.{admits_passed, admitted_by, admitted_short, admitted_holds}
use Rattle.grade.proofs.Demand3.{counted-within, findings_meet}
use Rattle.grade.proofs.Few.{values-few}
use Rattle.grade.proofs.Grading.{listed}

-- ---- tests
-- a test that holds says true
says_true : (t : Bool) → T t → t ≡ true
says_true true h = refl
says_true false h = absurd h

-- a number between the bounds is within them
is_within : (low high n : ℕ) → low ≤ n → n ≤ high → within low high n ≡ true
is_within low high n h k = rw (le-leb low n h, le-leb n high k)

-- ---- lists of findings
-- what is made of each element is in range
all_made : {A : Type 0} (make : A → Finding) (l : List A) → ((x : A) → Memᴰ x l → in_range (make x) ≡ true) → all_in_range (map make l) ≡ true
unfolding all_in_range
all_made make [] each = refl
all_made make (x ∷ l) each = rw (each x (Memᴰ.head refl)) (all_made make l (λ y later. each y (Memᴰ.tail later)))

-- ---- how long a segment is, and how many come before it
-- the parts that run to a delimiter, from a position on: none, or one that is shorter than s and those after it
ended_by : (d : ℕ) (s : List ℕ) (at : ℕ) (P : List (List ℕ) → Type 0) → P []
    → ((p : List ℕ) → length p < length s → P (p ∷ but_last (cut d (drop (end_from d s at + 1) s)))) → P (but_last (cut d (drop at s)))
ended_by d s at P none some = by (dec_lt (end_from d s at) (length s))
  where
    by : Dec (end_from d s at < length s) → P (but_last (cut d (drop at s)))
    by (yes ends) = subst⁻¹ P (ended_step d s at ends) (some _ (omega (arith, length-take (end_from d s at - at) (drop at s))))
    by (no over) = subst⁻¹ P (ended_stop d s at (omega arith)) none

-- part k of ps, where there is one, is shorter than s
abbrev Shorter : ℕ → List ℕ → List (List ℕ) → Type 0
Shorter k s ps = k < length ps → length (part_at ps k) < length s

ended-less : (d : ℕ) (s : List ℕ) (k at : ℕ) → Shorter k s (but_last (cut d (drop at s)))
ended-less d s zero at = ended_by d s at (Shorter zero s) (λ h. absurd (omega arith)) (λ p less h. less)
ended-less d s (suc k) at = ended_by d s at (Shorter (suc k) s) (λ h. absurd (omega arith)) (λ p less h. ended-less d s k (end_from d s at + 1) (omega arith))

-- no more segments of a name come before place n than places
earlier-few : (s : List (List ℕ)) (name n : ℕ) → earlier s name n ≤ n
unfolding earlier
earlier-few s name zero = omega arith
earlier-few s name (suc n) = by (eqb (name_at s n) name) (earlier-few s name n)
  where
    by : (same : Bool) → earlier s name n ≤ n → cond same (suc (earlier s name n)) (earlier s name n) ≤ suc n
    by true few = omega arith
    by false few = omega arith

-- ---- one finding
-- a rule's code is one of the eight, neither the order's nor one of the header's
rule_code : (kind : Kind) → (is_code (error_code kind) ≡ true) × (eqb (error_code kind) 100 ≡ false) × (within 200 203 (error_code kind) ≡ false)
rule_code Kind.Required = (refl, refl, refl)
rule_code (Kind.Length low high) = (refl, refl, refl)
rule_code Kind.Number = (refl, refl, refl)
rule_code Kind.Date = (refl, refl, refl)
rule_code (Kind.Time digits) = (refl, refl, refl)
rule_code (Kind.Code set) = (refl, refl, refl)

-- a severity's letter is one of the three
abbrev is_one_of_three : ℕ → Bool
is_one_of_three letter = eqb letter (code "E") || eqb letter (code "W") || eqb letter (code "I")

rule-letter : (severity : Severity) → is_one_of_three (severity_letter severity) ≡ true
rule-letter Severity.Error = refl
rule-letter Severity.Warning = refl
rule-letter Severity.Informational = refl

-- a rule's field is at least 1
field_some : (p : Place) → PlaceFits p → 1 ≤ p.field
field_some p fits = omega (arith, by (eqb p.segment msh), fits.first)
  where
    by : (first : Bool) → 1 ≤ cond first 3 1
    by true = omega arith
    by false = omega arith

-- a counted name, and a number among the segments of that name
abbrev is_segment : (name ordinal : ℕ) → Bool
is_segment name ordinal = counted name && within 1 number_limit ordinal

-- a rule's finding
value_in_range_lem : (name ordinal : ℕ) (rule : Rule) (i k : ℕ) → is_segment name ordinal ≡ true → PlaceFits rule.place → i < rule_limit → k < number_limit
    → in_range (value_finding name ordinal rule (suc i) (suc k)) ≡ true
unfolding in_range
value_in_range_lem name ordinal rule i k here fits numbered repeated =
    let coded = rule_code rule.kind in
    let number = is_within 1 rule_limit (suc i) (omega arith) numbered in
    let field = is_within 1 field_limit rule.place.field (field_some rule.place fits) fits.last in
    let repetition = is_within 1 number_limit (suc k) (omega arith) repeated in
    let component = le-leb rule.place.component component_limit fits.component in
    rw (coded.0, coded.1, coded.2, rule-letter rule.severity, number, here, field, repetition, component)

-- a number up to the last name's that is none of the ten is the end's
end_named : (n : ℕ) → leb n segment_count ≡ true → counted n ≡ false → n ≡ the_end
end_named n e f =
    let none = leb-false 1 n (sym (and-true (leb 1 n)) ∙ rw e at f) in
    omega arith

-- ---- the segments of a short message
module _ (m : List ℕ) (short : length m ≤ message_limit) where
  abbrev segments : List (List ℕ)
  segments = segments_of m

  -- each has its CR, so there are no more than bytes, and each is shorter than the message
  segments-few : length segments ≤ number_limit
  segments-few = omega (arith, ended-few (cut carriage_return m), cut-few carriage_return m)

  segment-less : (n : ℕ) → n < length segments → length (get_or segments n []) < number_limit
  segment-less n h = omega (arith, ended-less carriage_return m n 0 h)

  module _ (n : ℕ) where
    abbrev name : ℕ
    name = name_at segments n

    abbrev ordinal : ℕ
    ordinal = suc (earlier segments name n)

    -- a segment whose name counts
    counted-in_range : counted name ≡ true → is_segment name ordinal ≡ true
    counted-in_range e =
        let before = counted-within segments n (subst T (sym e) tt) in
        rw (e, is_within 1 number_limit ordinal (omega arith) (omega (arith, segments-few, earlier-few segments name n)))

    -- the order's finding, at such a segment or at the end
    order_in_range_lem : leb name segment_count ≡ true → in_range (order_finding name (cond (counted name) ordinal 0)) ≡ true
    unfolding in_range
    order_in_range_lem e = by (counted name) refl
      where
        by : (t : Bool) → counted name ≡ t → in_range (order_finding name (cond t ordinal 0)) ≡ true
        by true counts = rw (counted-in_range counts)
        by false none = rw (end_named name e none)

-- ---- all findings by a section that holds
module _ (m b : List ℕ) (s : Section) (short : length m ≤ message_limit) (holds : Holds b s) where
  abbrev rules : List Rule
  rules = rules_in b s

  abbrev sets : List (List (List ℕ))
  sets = sets_in b s

  -- the finding of an event that breaks
  event_in_range : (n j r : ℕ) → BreaksAt may_follow rules sets m n j r → in_range (finding_at may_follow rules sets m n j r) ≡ true
  event_in_range n zero r breaks =
      let out = and_both (counted (name_before (segments_of m) n)) _ (says_true _ breaks.2) in
      order_in_range_lem m short n (and_both (leb (name_at (segments_of m) n) segment_count) _ out.1).0
  event_in_range n (suc i) r breaks =
      let name = name_at (segments_of m) n in
      let rule = rule_numbered may_follow rules sets m i in
      let about = (and_both (is_about rule name) _ (says_true _ breaks.3)).0 in
      let counts = (and_both (counted name) _ about).0 in
      let many = rules-length b s holds in
      let fits = place_limits s.set_count rule (rule_fits_lem b s holds i (omega arith)) in
      let values = values-few (delims_of m) rule (segment_at may_follow rules sets m n) in
      let short-one = segment-less m short n breaks.0 in
      rw counts (value_in_range_lem name _ rule i r (counted-in_range m short n counts) fits (omega (arith, holds.few_rules)) (omega arith))

  findings-in_range : all_in_range (findings may_follow rules sets m) ≡ true
  findings-in_range =
      let all = findings_meet may_follow rules sets m in
      ap all_in_range all.listed
      ∙ all_made (finding_of may_follow rules sets m) all.events (λ e member. event_in_range e.0 e.1.0 e.1.1 ((all.exactly e).0 member))

-- ---- the header's findings
-- each of the four, where its check fails
header-in_range : (h : Header) → all_in_range (header_findings h) ≡ true
unfolding header_findings in_range all_in_range
header-in_range h = only h.type_wrong _ _ refl (only h.event_wrong _ _ refl (only h.processing_wrong _ _ refl (last h.version_wrong)))
  where
    only : (wrong : Bool) (f : Finding) (others : List Finding) → in_range f ≡ true → all_in_range others ≡ true → all_in_range (only_if wrong f ++ others) ≡ true
    only true f others e h = rw e h
    only false f others e h = h

    last : (wrong : Bool) → all_in_range (only_if wrong (header_finding 203 12 1)) ≡ true
    last true = refl
    last false = refl

-- ---- what grading gives is always in range
-- the findings by a section
pub all_in_range_lem : (m b : List ℕ) (s : Section) (h : Header) → length m ≤ message_limit → Holds b s → all_in_range (findings_in b s h m) ≡ true
all_in_range_lem m b s h short holds = by (any_wrong h)
  where
    by : (wrong : Bool) → all_in_range (cond wrong (header_findings h) (findings may_follow (rules_in b s) (sets_in b s) m)) ≡ true
    by true = header-in_range h
    by false = findings-in_range m b s short holds

-- those of a message that passes rows 1 to 9
pub graded-in_range : (m b : List ℕ) → passes (admit_rows m b) ≡ true → all_in_range (findings_for m b) ≡ true
graded-in_range m b passed =
    let admitted = admits_passed m b (eqb-true _ 0 passed) in
    let is = admitted_by m b admitted in
    ap all_in_range (sym (listed m b _ is.opens is.reads))
    ∙ all_in_range_lem m b _ (header_of (delims_of m) (msh_of m)) (admitted_short m b admitted) (admitted_holds m b admitted)
