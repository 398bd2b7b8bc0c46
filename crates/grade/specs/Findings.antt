-- To be believed. Demand 3: which findings a message has, by place, and the list of them. Assumes nothing.
use Rattle.std.specs.Prelude.{ℕ, zero, suc, ◌≤◌, ◌<◌, ◌≡◌, Bool, cond, ◌&&◌, ◌↔◌, length, get_or, T, eqb}
use mathlib.Core.List.{List, [], map, Memᴰ}
use Rattle.hl7.specs.Place.{delims_of, segments_of, never_cut, repetitions_of, component_of}
use Rattle.hl7.specs.declared.place.Delims.{Delims}
use Rattle.grade.specs.Order.{name_at, name_before, earlier, out_of_order}
use Rattle.grade.specs.Rule.{counted, error_code, no_rule, severity_letter}
use Rattle.grade.specs.Broken.{breaks_rule}
use Rattle.grade.specs.Strict.{Increasing, Lex, keep, count_from, pairs_from}
use Rattle.grade.specs.declared.rule.Rule.{Rule}
use Rattle.grade.specs.declared.rule.Severity.TheVariants.{Error}
use Rattle.grade.specs.declared.finding.Finding.{Finding}

-- ---- the values of a rule
-- a rule is about the segments of its name, a counted one
abbrev pub is_about : Rule → ℕ → Bool
is_about rule name = counted name && eqb rule.place.segment name

-- the value of a rule at a repetition: what stands there at the rule's component
abbrev pub value_in : Delims → Bool → Rule → List ℕ → List ℕ
value_in d whole rule rep = (component_of d whole rep rule.place.component).bytes

-- the values of a rule at a segment, one for each repetition of the rule's field
abbrev pub values_of : Delims → Rule → List ℕ → List (List ℕ)
values_of d rule seg = map (value_in d (never_cut seg rule.place.field) rule) (repetitions_of d seg rule.place.field)

-- ---- findings
-- the order is broken at a segment, by its name and its number among the segments of that name
abbrev pub order_finding : ℕ → ℕ → Finding
order_finding name ordinal =
    record { name = name; ordinal = ordinal; field = 0; repetition = 0; component = 0; rule = 0; code = 100; severity = severity_letter Error }

-- rule i is broken there at repetition k, both counted from 1
abbrev pub value_finding : ℕ → ℕ → Rule → ℕ → ℕ → Finding
value_finding name ordinal rule i k =
    record {
      name = name;
      ordinal = ordinal;
      field = rule.place.field;
      repetition = k;
      component = rule.place.component;
      rule = i;
      code = error_code rule.kind;
      severity = severity_letter rule.severity;
    }

-- ---- events
-- an event is a place: segment n, from 0 (the end is the place after the last), rule number (0 is the order), repetition, from 0
abbrev pub Event : Type 0
Event = ℕ × (ℕ × ℕ)

-- by segment, then by rule number, the order first, then by repetition
abbrev pub Earlier : Event → Event → Type 0
Earlier = Lex (Lex ◌<◌)

-- ---- when an event is one: by which name may follow which, the section's rules, the codes of its sets, and the message
module _ (follows : ℕ → ℕ → Bool) (rules : List Rule) (sets : List (List (List ℕ))) (m : List ℕ) where
  abbrev pub rule_numbered : ℕ → Rule
  rule_numbered i = get_or rules i no_rule

  abbrev pub segment_at : ℕ → List ℕ
  segment_at n = get_or (segments_of m) n []

  abbrev pub named : ℕ → ℕ
  named n = name_at (segments_of m) n

  abbrev pub values_at : ℕ → ℕ → List (List ℕ)
  values_at n i = values_of (delims_of m) (rule_numbered i) (segment_at n)

  abbrev pub order_broken : ℕ → Bool
  order_broken n = out_of_order follows (name_before (segments_of m) n) (named n)

  abbrev pub rule_broken : ℕ → ℕ → ℕ → Bool
  rule_broken n i r = is_about (rule_numbered i) (named n) && breaks_rule sets (rule_numbered i) r (get_or (values_at n i) r [])

  abbrev pub BreaksAt : ℕ → ℕ → ℕ → Type 0
  BreaksAt n zero r = (n ≤ length (segments_of m)) × (r ≡ 0) × T (order_broken n)
  BreaksAt n (suc i) r = (n < length (segments_of m)) × (i < length rules) × (r < length (values_at n i)) × T (rule_broken n i r)

  abbrev pub Breaks : Event → Type 0
  Breaks e = BreaksAt e.0 e.1.0 e.1.1

  -- ---- the finding of an event
  -- the number of segment n among the segments of its name; the end has none
  abbrev pub ordinal_at : ℕ → ℕ
  ordinal_at n = cond (counted (named n)) (suc (earlier (segments_of m) (named n) n)) 0

  abbrev pub finding_at : ℕ → ℕ → ℕ → Finding
  finding_at n zero r = order_finding (named n) (ordinal_at n)
  finding_at n (suc i) r = value_finding (named n) (ordinal_at n) (rule_numbered i) (suc i) (suc r)

  abbrev pub finding_of : Event → Finding
  finding_of e = finding_at e.0 e.1.0 e.1.1

  -- ---- demand 3: exactly the events that there are, each once, in their order
  pub record Demand3 (L : List Finding) : Type 0 where
    pub events : List Event
    pub in_order : Increasing Earlier events
    pub exactly : (e : Event) → Memᴰ e events ↔ Breaks e
    pub listed : L ≡ map finding_of events

  -- ---- the list: of every place that there is, in order, the findings of those that break
  abbrev pub breaks_at : ℕ → ℕ → ℕ → Bool
  breaks_at n zero r = order_broken n
  breaks_at n (suc i) r = rule_broken n i r

  abbrev pub breaks : Event → Bool
  breaks e = breaks_at e.0 e.1.0 e.1.1

  -- the order has one place at a segment, a rule as many as its field has repetitions there
  abbrev pub turns : ℕ → ℕ → ℕ
  turns n zero = 1
  turns n (suc i) = length (values_at n i)

  abbrev pub places : List Event
  places = pairs_from 0 (suc (length (segments_of m))) (λ (n : ℕ). pairs_from 0 (suc (length rules)) (λ (j : ℕ). count_from 0 (turns n j)))

  unfoldable pub findings : List Finding
  findings = map finding_of (keep breaks places)
