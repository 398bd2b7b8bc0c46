-- Sections that say the same but for the numbers of their sets give the same findings. Assumes nothing.
use mathlib.Core.Path.{◌≡◌, refl, sym, ap, ap₂, ◌∙◌}
use mathlib.Core.Bool.{Bool, cond, not, ◌&&◌, ◌||◌}
use mathlib.Core.List.{List, [], map}
use Prim.Native.Nat.{ℕ, zero, suc}
use lib.Dec.{eqb}
use lib.ListN.{length, get_or}
use Rattle.hl7.specs.Bytes.{among}
use Rattle.hl7.specs.Place.{delims_of, segments_of, never_cut, repetitions_of, component_of}
use Rattle.hl7.specs.declared.place.Delims.{Delims}
use Rattle.grade.specs.Book.{Contents}
use Rattle.grade.specs.Broken.{is_value, is_required, fits, broken, judges, breaks_rule}
use Rattle.grade.specs.Findings.{Event, values_at, named, ordinal_at, finding_at, breaks_at, turns, places, findings}
use Rattle.grade.specs.Grading.{findings_by}
use Rattle.grade.specs.Header.{msh_of, header_of, header_or}
use Rattle.grade.specs.Order.{may_follow}
use Rattle.grade.specs.Rule.{counted, error_code, severity_letter}
use Rattle.grade.specs.Strict.{keep, count_from, pairs_from}
use Rattle.grade.specs.declared.rule.Kind.{Kind}
use Rattle.grade.specs.declared.rule.Place.{Place}
use Rattle.difference.specs.Difference.{rule_at, codes_for}

-- a kind without the number of its set
abbrev pub blank : Kind → Kind
blank Kind.Required = Kind.Required
blank (Kind.Length low high) = Kind.Length low high
blank Kind.Number = Kind.Number
blank Kind.Date = Kind.Date
blank (Kind.Time digits) = Kind.Time digits
blank (Kind.Code set) = Kind.Code 0

-- rule i, counted from 0, says the same in both but for the number of its set, and the same values are among its codes
pub record RuleAlike (c d : Contents) (i : ℕ) : Type 0 where
  pub place : (rule_at c i).place ≡ (rule_at d i).place
  pub severity : (rule_at c i).severity ≡ (rule_at d i).severity
  pub kind : blank (rule_at c i).kind ≡ blank (rule_at d i).kind
  pub codes : (v : List ℕ) → among v (codes_for c i) ≡ among v (codes_for d i)

-- so do all rules
pub record Alike (c d : Contents) : Type 0 where
  pub many : length c.rules ≡ length d.rules
  pub rules : (i : ℕ) → RuleAlike c d i

-- ---- a kind's set is looked at only through its codes
required_blank : (k : Kind) → is_required k ≡ is_required (blank k)
required_blank Kind.Required = refl
required_blank (Kind.Length low high) = refl
required_blank Kind.Number = refl
required_blank Kind.Date = refl
required_blank (Kind.Time digits) = refl
required_blank (Kind.Code set) = refl

error_blank : (k : Kind) → error_code k ≡ error_code (blank k)
error_blank Kind.Required = refl
error_blank (Kind.Length low high) = refl
error_blank Kind.Number = refl
error_blank Kind.Date = refl
error_blank (Kind.Time digits) = refl
error_blank (Kind.Code set) = refl

fits-blank : (cs ds : List (List ℕ)) (v : List ℕ) → among v cs ≡ among v ds → (k : Kind) → fits k cs v ≡ fits (blank k) ds v
fits-blank cs ds v e Kind.Required = refl
fits-blank cs ds v e (Kind.Length low high) = refl
fits-blank cs ds v e Kind.Number = refl
fits-blank cs ds v e Kind.Date = refl
fits-blank cs ds v e (Kind.Time digits) = refl
fits-blank cs ds v e (Kind.Code set) = e

breaks_alike : (cs ds : List (List ℕ)) (v : List ℕ) → among v cs ≡ among v ds → (k l : Kind) (r : ℕ) → blank k ≡ blank l → (judges k r && broken k cs v) ≡ (judges l r && broken l ds v)
unfolding judges broken
breaks_alike cs ds v e k l r same =
    let required = required_blank k ∙ ap is_required same ∙ sym (required_blank l) in
    let fitting = fits-blank cs ds v e k ∙ ap (λ (x : Kind). fits x ds v) same ∙ sym (fits-blank ds ds v refl l) in
    ap₂ (λ (a b : Bool). (not a || eqb r 0) && cond (is_value v) (not b) a) required fitting

-- ---- findings
abbrev values_by : Delims → Place → List ℕ → List (List ℕ)
values_by d p seg = map (λ (rep : List ℕ). (component_of d (never_cut seg p.field) rep p.component).bytes) (repetitions_of d seg p.field)

module _ (follows : ℕ → ℕ → Bool) (c d : Contents) (alike : Alike c d) (m : List ℕ) where
  values_alike : (n i : ℕ) → values_at follows c.rules c.sets m n i ≡ values_at follows d.rules d.sets m n i
  values_alike n i = ap (λ (p : Place). values_by (delims_of m) p (get_or (segments_of m) n [])) (alike.rules i).place

  at_alike : (n j r : ℕ) → breaks_at follows c.rules c.sets m n j r ≡ breaks_at follows d.rules d.sets m n j r
  unfolding breaks_rule
  at_alike n zero r = refl
  at_alike n (suc i) r =
      let name = named follows c.rules c.sets m n in
      let about = ap (λ (p : Place). counted name && eqb p.segment name) (alike.rules i).place in
      let v = get_or (values_at follows c.rules c.sets m n i) r [] in
      let breaks = breaks_alike (codes_for c i) (codes_for d i) v ((alike.rules i).codes v) (rule_at c i).kind (rule_at d i).kind r (alike.rules i).kind in
      ap₂ ◌&&◌ about
      (breaks
      ∙ ap (λ (vs : List (List ℕ)). judges (rule_at d i).kind r && broken (rule_at d i).kind (codes_for d i) (get_or vs r [])) (values_alike n i))

  error_alike : (i : ℕ) → error_code (rule_at c i).kind ≡ error_code (rule_at d i).kind
  error_alike i = error_blank (rule_at c i).kind ∙ ap error_code (alike.rules i).kind ∙ sym (error_blank (rule_at d i).kind)

  value_alike : (n i r : ℕ) → finding_at follows c.rules c.sets m n (suc i) r ≡ finding_at follows d.rules d.sets m n (suc i) r
  value_alike n i r t =
      record {
        name = named follows c.rules c.sets m n;
        ordinal = ordinal_at follows c.rules c.sets m n;
        field = ((alike.rules i).place t).field;
        repetition = suc r;
        component = ((alike.rules i).place t).component;
        rule = suc i;
        code = error_alike i t;
        severity = severity_letter ((alike.rules i).severity t);
      }

  finding_alike : (n j r : ℕ) → finding_at follows c.rules c.sets m n j r ≡ finding_at follows d.rules d.sets m n j r
  finding_alike n zero r = refl
  finding_alike n (suc i) r = value_alike n i r

  turns_alike : (n j : ℕ) → turns follows c.rules c.sets m n j ≡ turns follows d.rules d.sets m n j
  turns_alike n zero = refl
  turns_alike n (suc i) = ap length (values_alike n i)

  places_alike : places follows c.rules c.sets m ≡ places follows d.rules d.sets m
  places_alike t = pairs_from 0 (suc (length (segments_of m))) (λ (n : ℕ). pairs_from 0 (suc (alike.many t)) (λ (j : ℕ). count_from 0 (turns_alike n j t)))

  findings_alike : findings follows c.rules c.sets m ≡ findings follows d.rules d.sets m
  unfolding findings
  findings_alike t = map (λ (e : Event). finding_alike e.0 e.1.0 e.1.1 t) (keep (λ (e : Event). at_alike e.0 e.1.0 e.1.1 t) (places_alike t))

pub same-findings : (c d : Contents) → Alike c d → (m : List ℕ) → findings_by c m ≡ findings_by d m
unfolding findings_by
same-findings c d alike m = ap (header_or (header_of (delims_of m) (msh_of m))) (findings_alike may_follow c d alike m)
