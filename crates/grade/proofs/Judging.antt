-- Judging one segment: the codes of a rule, its values, and what a rule and the rules give. Assumes nothing.
use Prim.Native.Nat.{ℕ, ◌+◌, ◌-◌, ◌≤◌, ◌<◌}
use mathlib.Core.Path.{◌≡◌, refl, sym, ap, ap₂, subst, subst⁻¹, ◌∙◌}
use mathlib.Core.Bool.{Bool, true, false, ◌&&◌, and-false}
use mathlib.Core.List.{List, [], ◌++◌, map}
use native.Mathlib.Numerals.{add-one}
use borrow.Author.Tests.{eq-eqb, eqb-true}
use lib.Dec.{eqb, leb}
use lib.ListN.{length, get_or, drop, drop_of_length-le}
use lib.Seq.{drop-cons}
use Rattle.hl7.specs.Spans.{parts_from}
use Rattle.hl7.specs.Place.{is_msh, never_cut, field_of, cut_unless, repetitions_of}
use Rattle.hl7.specs.declared.place.Delims.{Delims}
use Rattle.hl7.proofs.Walking.{parts_start}
use Rattle.hl7.proofs.Placing.{cut_later}
use Rattle.grade.specs.Rule.{msh, counted, first_field, kind_fits, rule_fits, no_rule}
use Rattle.grade.specs.Standing.{rules_in, sets_in, codes_at, SetAt}
use Rattle.grade.specs.Broken.{judges, broken, codes_of, breaks_rule}
use Rattle.grade.specs.Findings.{value_in, values_of, value_finding}
use Rattle.grade.specs.Rest.{CodesStand, CodesAre, breaks_by, broken_values, broken_from, of_rule, of_rules, left_of}
use Rattle.grade.proofs.Holding.{place_limits, code_limits}
use Rattle.grade.specs.declared.rule.Kind.{Kind}
use Rattle.grade.specs.declared.rule.Kind.TheVariants.{Required, Length, Number, Date, Time, Code}
use Rattle.grade.specs.declared.rule.Rule.{Rule}
use Rattle.grade.specs.declared.walk.Section.{Section}
use Rattle.grade.specs.declared.finding.Finding.{Finding}
use Rattle.grade.specs.declared.within.Spot.{Spot}

-- ---- the codes of a kind's set
pub set-in_range : {sets set : ℕ} {kind : Kind} → kind ≡ Code set → kind_fits sets kind ≡ true → (1 ≤ set) × (set ≤ sets)
set-in_range {sets} {set} e h = code_limits sets set (sym (ap (kind_fits sets) e) ∙ h)

module _ (b : List ℕ) (sets : List (List (List ℕ))) (at : ℕ) where
  codes_as : {kind k : Kind} → kind ≡ k → CodesAre b sets k at → CodesAre b sets kind at
  codes_as e h = subst⁻¹ (λ (k : Kind). CodesAre b sets k at) e h

  pub codes_placed : {set w place : ℕ} {kind : Kind} → kind ≡ Code set → w ≡ set → at ≡ place → SetAt b sets (w - 1) place → CodesAre b sets kind at
  codes_placed e f g h = codes_as e (rw g h.stands, rw g (h.codes ∙ ap (λ (n : ℕ). get_or sets (n - 1) []) f))

  pub codes-stand : (kind : Kind) → CodesAre b sets kind at → CodesStand b kind at
  codes-stand Required h = tt
  codes-stand (Length low high) h = tt
  codes-stand Number h = tt
  codes-stand Date h = tt
  codes-stand (Time digits) h = tt
  codes-stand (Code set) h = h.0

  -- so that a value breaks the kind by the codes that stand there exactly when it does by those of the set
  broken-same : (kind : Kind) → CodesAre b sets kind at → broken kind (codes_at b at) ≡ broken kind (codes_of sets kind)
  unfolding broken
  broken-same Required h = refl
  broken-same (Length low high) h = refl
  broken-same Number h = refl
  broken-same Date h = refl
  broken-same (Time digits) h = refl
  broken-same (Code set) h = ap (broken (Code set)) h.1

  breaks-same : (rule : Rule) → CodesAre b sets rule.kind at → breaks_by b rule at ≡ breaks_rule sets rule
  unfolding breaks_rule
  breaks-same rule h i r value = judges rule.kind r && broken-same rule.kind h i value

-- ---- a rule's field is always cut: MSH's rules have field 3 or more, and no other segment has a field that is not
pub always_cut : (sets : ℕ) (rule : Rule) (seg : List ℕ) → rule_fits sets rule ≡ true → (is_msh seg ≡ true → rule.place.segment ≡ msh) → never_cut seg rule.place.field ≡ false
unfolding never_cut
always_cut sets rule seg fits named = by (is_msh seg) refl
  where
    by : (b : Bool) → is_msh seg ≡ b → (leb rule.place.field 2 && is_msh seg) ≡ false
    by true e = cut_later seg (subst (λ (n : ℕ). first_field n ≤ rule.place.field) (named e) (place_limits sets rule fits).first)
    by false e = rw e (and-false (leb rule.place.field 2))

-- ---- one rule at a segment of its name: the spot before its first repetition
module _ (d : Delims) (b : List ℕ) (s : Section) (name ordinal : ℕ) (seg : List ℕ) (rule : Rule) where
  abbrev field_here : List ℕ
  field_here = (field_of d seg rule.place.field).bytes

  abbrev pub left_here : Spot → List Finding
  left_here spot = left_of d (sets_in b s) name ordinal seg spot rule

  module _ (counts : counted name ≡ true) (fits : rule_fits s.set_count rule ≡ true) (about : rule.place.segment ≡ name) (named : is_msh seg ≡ eqb name msh) where
    values-cut : values_of d rule seg ≡ map (value_in d false rule) (parts_from d.tilde field_here 0)
    unfolding repetitions_of cut_unless
    values-cut =
        let never = always_cut s.set_count rule seg fits (λ e. about ∙ eqb-true name msh (sym named ∙ e)) in
        ap (λ (n : Bool). map (value_in d n rule) (cut_unless n d.tilde field_here)) never
        ∙ ap (map (value_in d false rule)) (sym (parts_start d.tilde field_here))

    pub rule-whole : (i : ℕ) → of_rule d (sets_in b s) name ordinal seg (i + 1) rule ≡ left_here (record { rule = i; at = 0; passed = 0; field = record { codes = 0; start = 0; end = 0 } })
    rule-whole i =
        rw (counts, eq-eqb rule.place.segment name about)
        (ap (λ (vs : List (List ℕ)). map (value_finding name ordinal rule (i + 1)) (broken_values (breaks_rule (sets_in b s) rule) 0 vs)) values-cut)

  -- what it still gives, in the words of the code
  pub left_as : (fld : List ℕ) → field_here ≡ fld → (codes : ℕ) → CodesAre b (sets_in b s) rule.kind codes → (spot : Spot)
      → left_here spot ≡ map (value_finding name ordinal rule (spot.rule + 1)) (broken_from d fld b rule codes spot.at spot.passed)
  left_as fld is_field codes are spot =
      ap₂ (λ (test : ℕ → List ℕ → Bool) (f : List ℕ). map (value_finding name ordinal rule (spot.rule + 1)) (broken_values test spot.passed (map (value_in d false rule) (parts_from d.tilde f spot.at))))
      (sym (breaks-same b (sets_in b s) codes rule are)) is_field

-- ---- the rules at a segment's bytes
module _ (d : Delims) (b : List ℕ) (s : Section) (name ordinal : ℕ) (seg : List ℕ) where
  abbrev pub rule_here : ℕ → Rule → List Finding
  rule_here i rule = of_rule d (sets_in b s) name ordinal seg i rule

  abbrev pub rules_here : ℕ → List Finding
  rules_here i = of_rules d (sets_in b s) name ordinal seg i (drop i (rules_in b s))

  -- a rule of another segment gives nothing
  pub other_rule : (i : ℕ) (rule : Rule) → eqb rule.place.segment name ≡ false → rule_here i rule ≡ []
  other_rule i rule e = rw (e, and-false (counted name))

  pub rules-next : (i : ℕ) → i < length (rules_in b s) → rules_here i ≡ rule_here (i + 1) (get_or (rules_in b s) i no_rule) ++ rules_here (i + 1)
  unfolding of_rules
  rules-next i h = rw (add-one i) (ap (of_rules d (sets_in b s) name ordinal seg i) (drop-cons (rules_in b s) i no_rule h))

  pub rules_end_lem : (i : ℕ) → length (rules_in b s) ≤ i → rules_here i ≡ []
  unfolding of_rules
  rules_end_lem i h = ap (of_rules d (sets_in b s) name ordinal seg i) (drop_of_length-le (rules_in b s) h)
