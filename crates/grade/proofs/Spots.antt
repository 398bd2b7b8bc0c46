-- Going from spot to spot of a segment: what each function of `within` leaves of the list of what is still to come. Assumes nothing.
use Prim.Native.Nat.{ℕ, ◌+◌, ◌-◌, ◌≤◌, ◌<◌}
use mathlib.Core.Path.{◌≡◌, refl, sym, ap, subst, subst⁻¹, ◌∙◌}
use mathlib.Core.Bool.{true}
use mathlib.Core.List.{List, [], ◌∷◌, ◌++◌, map}
use Rattle.std.proofs.Common.{Option, Some, None}
use native.Mathlib.Decide.{dec_lt}
use native.Mathlib.Numerals.{add-one}
use native.Mathlib.Omega.{arith}
use lib.ListN.{length, get_or, drop, length-take, length-drop, drop_of_length-le}
use lib.Seq.{drop-cons}
use Rattle.hl7.specs.Spans.{between, Spans}
use Rattle.hl7.specs.Bytes.{all, differs}
use Rattle.hl7.specs.Place.{field_of}
use Rattle.hl7.specs.declared.cut.Span.{Span}
use Rattle.hl7.specs.declared.place.Delims.{Delims}
use Rattle.hl7.proofs.Comparing.{all_take, all_drop}
use Rattle.hl7.proofs.Cutting.{between-inside}
use Rattle.grade.specs.Limits.{name_places, field_limit}
use Rattle.grade.specs.Rule.{rule_fits, kind_fits, no_rule}
use Rattle.grade.specs.Standing.{Holds, rules_in, sets_in}
use Rattle.grade.specs.Linked.{next_about, Linked}
use Rattle.grade.specs.Findings.{value_finding}
use Rattle.grade.specs.Rest.{CodesAre, broken_from, NextValue, of_rules, left_of, left_from, first_spot, bytes_of, HereStands, Fielded, SpotStands, rules_from, segment_rest, NextOfRule, NextWithin}
use Rattle.grade.specs.declared.rule.Rule.{Rule}
use Rattle.grade.specs.declared.walk.Section.{Section}
use Rattle.grade.specs.declared.finding.Finding.{Finding}
use Rattle.grade.specs.declared.within.Here.{Here}
use Rattle.grade.specs.declared.within.Field.{Field}
use Rattle.grade.specs.declared.within.Spot.{Spot}
use Rattle.grade.specs.declared.within.Broken.{Broken}
use Rattle.grade.specs.declared.within.Judged.{Judged}
use Rattle.grade.proofs.Holding.{rules-length, rule_fits_lem, place_limits, kind_limits}
use Rattle.grade.proofs.Repetitions.{values-over}
use Rattle.grade.proofs.Judging.{rule-whole, left_as, rules-next, rules_end_lem}
use Rattle.grade.proofs.Linking.{rules_skip, about-next, next_bounds}

-- ---- the rule at a spot, as the code reads it
module _ (d : Delims) (m b : List ℕ) (s : Section) (here : Here) (holds : Holds b s) (stands : HereStands m here) (spot : Spot) (few : spot.rule < s.rule_count)
    (about : (get_or (rules_in b s) spot.rule no_rule).place.segment ≡ here.name) (rule : Rule) (is-it : rule ≡ get_or (rules_in b s) spot.rule no_rule) where
  abbrev seg : List ℕ
  seg = bytes_of m here

  fits : rule_fits s.set_count rule ≡ true
  fits = ap (rule_fits s.set_count) is-it ∙ rule_fits_lem b s holds spot.rule few

  pub kind_in_range : kind_fits s.set_count rule.kind ≡ true
  kind_in_range = kind_limits s.set_count rule fits

  pub field_last : rule.place.field ≤ field_limit
  field_last = (place_limits s.set_count rule fits).last

  -- where the field stands in the message
  pub fielded : {span : Span} (codes : ℕ) {f : ℕ} → f ≡ rule.place.field → Spans seg (field_of d seg f) span → CodesAre b (sets_in b s) rule.kind codes
      → (here.single ≡ true → all (differs d.tilde) seg ≡ true) → Fielded d m b s here spot.rule (record { codes = codes; start = here.start + span.start; end = here.start + span.end })
  fielded {span} codes {f} own found are untilded =
      let inner : here.start + span.end ≤ here.end = omega (arith, found.inside, stands.forward, stands.inside, length-take (here.end - here.start) (drop here.start m), length-drop here.start m) in
      let same = between-inside m here.start here.end span.start span.end inner in
      record {
        forward = omega (arith, found.forward);
        inside = omega (arith, stands.inside);
        bytes = ap (λ (n : ℕ). (field_of d seg n).bytes) (ap (λ (r : Rule). r.place.field) (sym is-it) ∙ sym own) ∙ sym found.bytes ∙ same;
        untilded = λ e. subst (λ (l : List ℕ). all (differs d.tilde) l ≡ true) same (all_take _ (span.end - span.start) (drop span.start seg) (all_drop _ span.start seg (untilded e)));
        codes = subst (λ (r : Rule). CodesAre b (sets_in b s) r.kind codes) is-it are;
      }

  -- what it still gives, by the field's bytes; value is the first of them
  module _ {f : Field} (known : Fielded d m b s here spot.rule f) where
    abbrev fld : List ℕ
    fld = between m f.start f.end

    abbrev left : Spot → List Finding
    left at = left_of d (sets_in b s) here.name here.ordinal seg at (get_or (rules_in b s) spot.rule no_rule)

    abbrev told : Option Broken → Type 0
    told v = NextValue d fld b rule f.codes (broken_from d fld b rule f.codes spot.at spot.passed) v

    abbrev make : ℕ → Finding
    make = value_finding here.name here.ordinal rule (spot.rule + 1)

    pub codes-known : CodesAre b (sets_in b s) rule.kind f.codes
    codes-known = subst⁻¹ (λ (r : Rule). CodesAre b (sets_in b s) r.kind f.codes) is-it known.codes

    left_is : (at : Spot) → at.rule ≡ spot.rule → left at ≡ map make (broken_from d fld b rule f.codes at.at at.passed)
    left_is at e =
        ap (left_of d (sets_in b s) here.name here.ordinal seg at) (sym is-it)
        ∙ left_as d b s here.name here.ordinal seg rule fld (ap (λ (r : Rule). (field_of d seg r.place.field).bytes) is-it ∙ known.bytes) f.codes codes-known at
        ∙ ap (λ (n : ℕ). map (value_finding here.name here.ordinal rule (n + 1)) (broken_from d fld b rule f.codes at.at at.passed)) e

    pub rule_found : {r : Option Broken} → told r → (v : Broken) (x : Finding) → r ≡ Some v → x ≡ make v.repetition → NextOfRule d m b s here spot (Judged.Found x (record { rule = spot.rule; at = v.next; passed = v.repetition; field = f }))
    rule_found h v x e made =
        let got = subst told e h in
        let then : Spot = record { rule = spot.rule; at = v.next; passed = v.repetition; field = f } in
        (left_is spot refl ∙ ap (map make) got.0 ∙ (λ i. sym made i ∷ sym (left_is then refl) i), refl, got.1, known)

    pub rule_last : {r : Option Broken} → told r → (v : Broken) (x : Finding) → r ≡ Some v → x ≡ make v.repetition → length fld < v.next → NextOfRule d m b s here spot (Judged.Last x)
    rule_last h v x e made past =
        let got = subst told e h in
        left_is spot refl ∙ ap (map make) got.0 ∙ (λ i. sym made i ∷ map make (values-over d fld b rule f.codes v.repetition v.next past i))

    pub rule-fine : {r : Option Broken} → told r → r ≡ None → NextOfRule d m b s here spot Judged.Nothing
    rule-fine h e = left_is spot refl ∙ ap (map make) (subst told e h)

-- ---- the rules from a spot on
module _ (d : Delims) (m b : List ℕ) (s : Section) (here : Here) where
  abbrev this_left : Spot → List Finding
  this_left spot = left_of d (sets_in b s) here.name here.ordinal (bytes_of m here) spot (get_or (rules_in b s) spot.rule no_rule)

  abbrev rest_at : Spot → List Finding
  rest_at = segment_rest d m b s here

  left-next : (spot : Spot) → spot.rule < length (rules_in b s) → rest_at spot ≡ this_left spot ++ rules_from d m b s here (spot.rule + 1)
  unfolding left_from
  left-next spot h =
      ap (left_from d (sets_in b s) here.name here.ordinal (bytes_of m here) spot) (drop-cons (rules_in b s) spot.rule no_rule h)
      ∙ ap (λ (n : ℕ). this_left spot ++ of_rules d (sets_in b s) here.name here.ordinal (bytes_of m here) (spot.rule + 1) (drop n (rules_in b s))) (sym (add-one spot.rule))

  pub left_over : (spot : Spot) → length (rules_in b s) ≤ spot.rule → rest_at spot ≡ []
  unfolding left_from
  left_over spot h = ap (left_from d (sets_in b s) here.name here.ordinal (bytes_of m here) spot) (drop_of_length-le (rules_in b s) h)

  module _ (holds : Holds b s) (stands : HereStands m here) where
    -- before the first repetition of a rule all is left that the rules from it on give
    pub spot-first : (i : ℕ) → (i < length (rules_in b s) → (get_or (rules_in b s) i no_rule).place.segment ≡ here.name) → rest_at (first_spot i) ≡ rules_from d m b s here i
    spot-first i about = by (dec_lt i (length (rules_in b s)))
      where
        by : Dec (i < length (rules_in b s)) → rest_at (first_spot i) ≡ rules_from d m b s here i
        by (yes l) =
            left-next (first_spot i) l
            ∙ ap (λ (k : List Finding). k ++ rules_from d m b s here (i + 1))
            (sym (rule-whole d b s here.name here.ordinal (bytes_of m here) (get_or (rules_in b s) i no_rule) stands.counts (rule_fits_lem b s holds i (omega (arith, rules-length b s holds))) (about l) stands.named i))
            ∙ sym (rules-next d b s here.name here.ordinal (bytes_of m here) i l)
        by (no l) = left_over (first_spot i) (omega arith) ∙ sym (rules_end_lem d b s here.name here.ordinal (bytes_of m here) i (omega arith))

    -- the first rule about the segment
    pub spot_begin : rest_at (first_spot (next_about here.name 0 (rules_in b s))) ≡ rules_from d m b s here 0
    spot_begin =
        spot-first (next_about here.name 0 (rules_in b s)) (about-next here.name (rules_in b s) 0)
        ∙ sym (rules_skip d b s here.name here.ordinal (bytes_of m here) 0)

    module _ {starts : List ℕ} (spot : Spot) (at : SpotStands d m b s starts here spot) (few : spot.rule < s.rule_count) where
      within : spot.rule < length (rules_in b s)
      within = omega (arith, rules-length b s holds)

      pub then_found : {l : List Finding} {r : Judged} → l ≡ rest_at spot → NextOfRule d m b s here spot r → (f : Finding) (then : Spot) → r ≡ Judged.Found f then → NextWithin d m b s starts here l (Some (f, then))
      then_found same h f then e =
          let got = subst (NextOfRule d m b s here spot) e h in
          let in-it : then.rule < length (rules_in b s) = omega (arith, got.1, within) in (
            same ∙ left-next spot within ∙ ap (λ (k : List Finding). k ++ rules_from d m b s here (spot.rule + 1)) got.0
                ∙ ap (λ (n : ℕ). f ∷ (left_of d (sets_in b s) here.name here.ordinal (bytes_of m here) then (get_or (rules_in b s) n no_rule) ++ rules_from d m b s here (n + 1))) (sym got.1)
                ∙ ap (λ (k : List Finding). f ∷ k) (sym (left-next then in-it)),
            record {
              passed = got.2;
              about = λ l. subst⁻¹ (λ (n : ℕ). (get_or (rules_in b s) n no_rule).place.segment ≡ here.name) got.1 (at.about few);
              parted = λ l. at.parted few;
              known = λ l. subst⁻¹ (λ (n : ℕ). Fielded d m b s here n then.field) got.1 got.3;
            },
          )

      -- the next rule about the segment
      module _ {links : List ℕ} (linked : Linked (rules_in b s) links) {k : ℕ} (is-link : k ≡ get_or links (name_places + spot.rule) 0) {next : Spot} (is : next ≡ first_spot k) where
        next-is : k ≡ next_about here.name (spot.rule + 1) (drop (spot.rule + 1) (rules_in b s))
        next-is = is-link ∙ linked.after spot.rule within ∙ ap (λ (name : ℕ). next_about name (spot.rule + 1) (drop (spot.rule + 1) (rules_in b s))) (at.about few)

        pub next-later : spot.rule < next.rule
        next-later = omega (arith, ap (λ (x : Spot). x.rule) is, next-is, (next_bounds here.name (rules_in b s) (spot.rule + 1)).0)

        next_about_lem : k < length (rules_in b s) → (get_or (rules_in b s) k no_rule).place.segment ≡ here.name
        next_about_lem = rw next-is (about-next here.name (rules_in b s) (spot.rule + 1))

        pub next-stands : SpotStands d m b s starts here next
        next-stands = subst⁻¹ (SpotStands d m b s starts here) is (record { passed = omega arith; about = λ l. next_about_lem (omega (arith, rules-length b s holds)); parted = λ l. at.parted few; known = λ l. absurd (omega arith) })

        pub then_none : {r : Judged} → NextOfRule d m b s here spot r → r ≡ Judged.Nothing → rest_at spot ≡ rest_at next
        then_none h e =
            left-next spot within
            ∙ ap (λ (l : List Finding). l ++ rules_from d m b s here (spot.rule + 1)) (subst (NextOfRule d m b s here spot) e h)
            ∙ rules_skip d b s here.name here.ordinal (bytes_of m here) (spot.rule + 1)
            ∙ ap (rules_from d m b s here) (sym next-is)
            ∙ sym (spot-first k next_about_lem)
            ∙ ap rest_at (sym is)

        pub then_last : {l : List Finding} {r : Judged} → l ≡ rest_at spot → NextOfRule d m b s here spot r → (f : Finding) → r ≡ Judged.Last f → NextWithin d m b s starts here l (Some (f, next))
        then_last same h f e = (
          same ∙ left-next spot within
              ∙ ap (λ (l : List Finding). l ++ rules_from d m b s here (spot.rule + 1)) (subst (NextOfRule d m b s here spot) e h)
              ∙ ap (λ (l : List Finding). f ∷ l) (rules_skip d b s here.name here.ordinal (bytes_of m here) (spot.rule + 1) ∙ ap (rules_from d m b s here) (sym next-is) ∙ sym (spot-first k next_about_lem) ∙ ap rest_at (sym is)),
          next-stands,
        )
