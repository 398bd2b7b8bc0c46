-- What a caller of the grader knows of its steps: the laws that upper crates cite. Assumes nothing.
use Prim.Native.Nat.{ℕ, ◌+◌, ◌*◌, ◌≤◌, ◌<◌}
use mathlib.Core.Path.{◌≡◌, refl, sym, ap, subst, subst⁻¹, ◌∙◌}
use mathlib.Core.Bool.{Bool, true, false, cond}
use mathlib.Core.List.{List, [], ◌∷◌, ◌++◌, append-nil}
use Rattle.std.proofs.Common.{Option, Some, None}
use native.Mathlib.Omega.{arith}
use lib.ListN.{length, get_or, drop, replicate}
use Rattle.hl7.specs.Refusals.{message_limit}
use Rattle.hl7.specs.Place.{delims_of}
use Rattle.hl7.specs.declared.place.Delims.{Delims}
use Rattle.grade.specs.Limits.{name_places}
use Rattle.grade.specs.Rule.{other_number}
use Rattle.grade.specs.Standing.{Holds, rules_in, sets_in}
use Rattle.grade.specs.Order.{may_follow, out_of_order}
use Rattle.grade.specs.Header.{header_findings, any_wrong, header_or}
use Rattle.grade.specs.Findings.{findings}
use Rattle.grade.specs.Rest.{grade_from, findings_in, rest, Stands, Steps, between_at, cursor_at_start}
use Rattle.grade.specs.declared.header.Header.{Header}
use Rattle.grade.specs.declared.walk.Section.{Section}
use Rattle.grade.specs.declared.finding.Finding.{Finding}
use Rattle.grade.specs.declared.step.Cursor.{Cursor}
use Rattle.grade.proofs.Holding.{rules-length}
use Rattle.grade.proofs.Few.{findings-few}
use Rattle.grade.proofs.Heading.{none_found, header-few}
use Rattle.grade.proofs.Segments.{between_list, between-stands, after_end, start-counts, counts-later, list_as}

module _ (follows : ℕ → ℕ → Bool) (d : Delims) (m b : List ℕ) (s : Section) where
  abbrev pub left : List ℕ → Cursor → List Finding
  left counts c = rest (out_of_order follows) d m b s counts c

  -- ---- before the first step
  module _ (holds : Holds b s) (h : Header) {c : Cursor} (begins : c ≡ cursor_at_start h s.rule_count (length m)) where
    abbrev at : Bool → Cursor
    at wrong = between_at h s.rule_count (cond wrong (length m) 0) other_number

    abbrev all : List Finding
    all = grade_from (out_of_order follows) d m b s 0 other_number (replicate name_places 0)

    -- the header's findings alone, or all of grading
    pub start_left : left (replicate name_places 0) c ≡ header_or h all
    start_left = ap (left (replicate name_places 0)) begins ∙ by (any_wrong h) refl
      where
        by : (wrong : Bool) → any_wrong h ≡ wrong → left (replicate name_places 0) (at wrong) ≡ cond wrong (header_findings h) all
        by true e =
            between_list follows d m b s holds h (length m) other_number (replicate name_places 0)
            ∙ ap (λ (l : List Finding). header_findings h ++ l) (after_end follows d m b s (replicate name_places 0)) ∙ append-nil (header_findings h)
        by false e = between_list follows d m b s holds h 0 other_number (replicate name_places 0) ∙ ap (λ (l : List Finding). l ++ all) (none_found h e)

    pub start-stands : (starts : List ℕ) → Stands d m b s starts (replicate name_places 0) c
    start-stands starts = subst⁻¹ (Stands d m b s starts (replicate name_places 0)) begins (by (any_wrong h))
      where
        by : (wrong : Bool) → Stands d m b s starts (replicate name_places 0) (at wrong)
        by true = between-stands follows d m b s holds h (length m) other_number starts (replicate name_places 0) (counts-later (length m) (start-counts m) (omega arith) (omega arith))
        by false = between-stands follows d m b s holds h 0 other_number starts (replicate name_places 0) (start-counts m)

  -- ---- one step, at which l is still to come
  module _ (starts counts : List ℕ) (l : List Finding) (r : Option (Finding × Cursor)) (h : Steps (out_of_order follows) d m b s starts counts l r) where
    abbrev steps : Option (Finding × Cursor) → Type 0
    steps = Steps (out_of_order follows) d m b s starts counts l

    pub step_found : {f : Finding} {c : Cursor} → r ≡ Some (f, c) → (l ≡ f ∷ left counts c) × Stands d m b s starts counts c
    step_found e = subst steps e h

    pub step_end : r ≡ None → l ≡ []
    step_end e = subst steps e h

    -- a loop over the steps ends
    pub step_less : {f : Finding} {c : Cursor} → r ≡ Some (f, c) → length (left counts c) < length l
    step_less e = omega (arith, ap length (step_found e).0)

  -- what two steps have in common: the finding and what is still to come, or that both are at the end
  abbrev pub SameStep : (counts counts' : List ℕ) → Option (Finding × Cursor) → Option (Finding × Cursor) → Type 0
  SameStep counts counts' (Some (f, c)) (Some (f', c')) = (f ≡ f') × (left counts c ≡ left counts' c')
  SameStep counts counts' (Some (f, c)) None = ⊥
  SameStep counts counts' None (Some (f, c)) = ⊥
  SameStep counts counts' None None = Unit {0}

  -- any two steps that the contract of `next` allows, where l is still to come
  pub step_once : (starts starts' counts counts' : List ℕ) (l : List Finding) (r r' : Option (Finding × Cursor)) → Steps (out_of_order follows) d m b s starts counts l r → Steps (out_of_order follows) d m b s starts' counts' l r'
      → SameStep counts counts' r r'
  step_once starts starts' counts counts' l (Some (f, c)) (Some (f', c')) h h' = let same = sym h.0 ∙ h'.0 in (ap (λ (k : List Finding). get_or k 0 f) same, ap (drop 1) same)
  step_once starts starts' counts counts' l (Some (f, c)) None h h' = let z : ◌≡◌ {A = ℕ} 0 1 = cc (sym h.0 ∙ h') in omega arith
  step_once starts starts' counts counts' l None (Some (f, c)) h h' = let z : ◌≡◌ {A = ℕ} 0 1 = cc (sym h'.0 ∙ h) in omega arith
  step_once starts starts' counts counts' l None None h h' = tt

-- ---- by the order's own table and the message's own delimiters, these are all
pub start-all : (m b : List ℕ) (s : Section) (h : Header) {out : ℕ → ℕ → Bool} {d : Delims} → out ≡ out_of_order may_follow → d ≡ delims_of m
    → header_or h (grade_from out d m b s 0 other_number (replicate name_places 0)) ≡ findings_in b s h m
start-all m b s h e f = ap (header_or h) (list_as m b s may_follow e f)

-- ---- so many findings at most
pub all-within : (m b : List ℕ) (s : Section) (h : Header) → length m ≤ message_limit → Holds b s → length (findings_in b s h m) ≤ (length m + 1) * (257 * 32769)
all-within m b s h short holds = by (any_wrong h)
  where
    by : (wrong : Bool) → length (cond wrong (header_findings h) (findings may_follow (rules_in b s) (sets_in b s) m)) ≤ (length m + 1) * (257 * 32769)
    by true = omega (arith, header-few h)
    by false = findings-few may_follow (rules_in b s) (sets_in b s) m short (omega (arith, rules-length b s holds, holds.few_rules))
