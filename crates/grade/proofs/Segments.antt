-- Walking the segments: what each function of `step` adds to the list of what is still to come. Assumes nothing.
use Prim.Native.Nat.{ℕ, zero, suc, ◌+◌, ◌≤◌, ◌<◌}
use mathlib.Core.Path.{◌≡◌, refl, sym, ap, ap₂, subst, subst⁻¹, ◌∙◌}
use mathlib.Core.Bool.{Bool, true, false, cond}
use mathlib.Core.List.{List, [], ◌∷◌, ◌++◌, append_assoc}
use Rattle.std.proofs.Common.{Option, Some, None}
use native.Mathlib.Numerals.{add-one}
use native.Mathlib.Omega.{arith}
use borrow.Author.Tests.{ne_eqb}
use lib.Dec.{eqb, lit≤}
use lib.ListN.{length, get_or, take, drop, set, replicate}
use lib.Seq.{drop-length}
use Rattle.hl7.specs.Bytes.{same, begins}
use Rattle.hl7.specs.Cut.{cut, end_from, but_last}
use Rattle.hl7.specs.Spans.{between}
use Rattle.hl7.specs.Place.{delims_of, carriage_return, is_msh}
use Rattle.hl7.specs.declared.place.Delims.{Delims}
use Rattle.hl7.proofs.Walking.{ended_step, ended_stop}
use Rattle.grade.specs.Limits.{segment_count, name_places}
use Rattle.grade.specs.Rule.{the_end, msh, pid, counted, segment_names, number_from, name_of_letters, other_number, no_rule}
use Rattle.grade.specs.Standing.{Holds, rules_in, sets_in}
use Rattle.grade.specs.Linked.{next_about, Linked}
use Rattle.grade.specs.Order.{name_of, out_of_order}
use Rattle.grade.specs.Header.{header_findings, any_wrong}
use Rattle.grade.specs.Findings.{findings, order_finding}
use Rattle.grade.specs.Rest.{HereStands, Parted, segment_rest, rules_from, of_order, of_segment, NextWithin, grade_segments, grade_from, CountsStand, grade_rest, rest, Stands, none_wrong, first_spot, between_at, moved_to, end_by, end_entered, entered_at, EnteredAt, Enters, Opens, Steps}
use Rattle.grade.specs.declared.walk.Section.{Section}
use Rattle.grade.specs.declared.finding.Finding.{Finding}
use Rattle.grade.specs.declared.header.Header.{Header}
use Rattle.grade.specs.declared.within.Here.{Here}
use Rattle.grade.specs.declared.within.Spot.{Spot}
use Rattle.grade.specs.declared.step.Cursor.{Cursor}
use Rattle.grade.specs.declared.step.Entered.{Entered}
use Rattle.grade.proofs.Naming.{is_counted_lem, not-counted, number_bounds, name_bounds}
use Rattle.grade.proofs.Holding.{rules-length}
use Rattle.grade.proofs.Linking.{about-next}
use Rattle.grade.proofs.Spots.{left_over, spot_begin}
use Rattle.grade.proofs.ByPlace.{walk_all, zeros}
use Rattle.grade.proofs.Heading.{first-others, none_found}

-- a segment is named MSH exactly where hl7 takes it for an MSH
not_first : (name : List ℕ) → eqb (number_from pid name (drop 1 segment_names)) msh ≡ false
unfolding segment_names
not_first name = ne_eqb (number_from pid name (drop 1 segment_names)) msh (λ q. absurd (omega (arith, q, number_bounds pid name (drop 1 segment_names) (lit≤ tt))))

first-is : (t : Bool) (r : ℕ) → eqb r msh ≡ false → t ≡ eqb (cond t msh r) msh
first-is true r e = refl
first-is false r e = sym e

msh-named : (seg : List ℕ) → is_msh seg ≡ eqb (name_of seg) msh
unfolding begins name_of_letters segment_names number_from same
msh-named [] = refl
msh-named (x ∷ []) = first-is _ _ (not_first (x ∷ (0 ∷ (0 ∷ []))))
msh-named (x ∷ (y ∷ [])) = first-is _ _ (not_first (x ∷ (y ∷ (0 ∷ []))))
msh-named (x ∷ (y ∷ (z ∷ seg))) = first-is _ _ (not_first (x ∷ (y ∷ (z ∷ []))))

-- a bound of all elements is kept by a store within it
set-bound : (l : List ℕ) (i v most : ℕ) → v ≤ most → ((k : ℕ) → get_or l k 0 ≤ most) → (k : ℕ) → get_or (set l i v) k 0 ≤ most
set-bound [] i v most h all k = all k
set-bound (x ∷ l) zero v most h all zero = h
set-bound (x ∷ l) zero v most h all (suc k) = all (suc k)
set-bound (x ∷ l) (suc i) v most h all zero = all zero
set-bound (x ∷ l) (suc i) v most h all (suc k) = set-bound l i v most h (λ n. all (suc n)) k

pub counts-later : {m : List ℕ} {at : ℕ} {counts : List ℕ} (later : ℕ) → CountsStand m at counts → at ≤ later → later ≤ length m → CountsStand m later counts
counts-later later h p q = record { inside = q; counted = λ k. omega (arith, h.counted k) }

-- a cursor before the first rule of a segment, as the code makes it
pub entered : {d : Delims} {m starts : List ℕ} {rules first at stop name ordinal count : ℕ} {single : Bool} {none : Header} {spot : Spot} → none ≡ none_wrong → spot ≡ first_spot first
    → (first < rules → Parted d (between m at stop) starts count single)
    → EnteredAt d m starts rules first at stop name ordinal (record { header = none; here = record { start = at; end = stop; name = name; ordinal = ordinal; count = count; single = single }; spot = spot; next = stop + 1; last = name })
entered {at = at} {stop} {name} {ordinal} {count} {single} e f parted = record {
  count = count;
  single = single;
  is = ap₂ (λ (header : Header) (x : Spot). record { header = header; here = record { start = at; end = stop; name = name; ordinal = ordinal; count = count; single = single }; spot = x; next = stop + 1; last = name }) e f;
  parted = parted;
}

module _ (follows : ℕ → ℕ → Bool) (d : Delims) (m b : List ℕ) (s : Section) where
  abbrev out : ℕ → ℕ → Bool
  out = out_of_order follows

  abbrev from : ℕ → ℕ → List ℕ → List Finding
  from at last counts = grade_from out d m b s at last counts

  -- ---- between two segments
  module _ (holds : Holds b s) (header : Header) (next last : ℕ) where
    abbrev cursor : Cursor
    cursor = between_at header s.rule_count next last

    pub between_list : (counts : List ℕ) → rest out d m b s counts cursor ≡ header_findings header ++ from next last counts
    between_list counts =
        ap (λ (l : List Finding). header_findings header ++ (l ++ from next last counts)) (left_over d m b s cursor.here cursor.spot (omega (arith, rules-length b s holds)))

    pub between-stands : (starts counts : List ℕ) → CountsStand m next counts → Stands d m b s starts counts cursor
    unfolding begins
    between-stands starts counts h = record {
      here = record { forward = omega arith; inside = omega arith; counts = refl; named = refl };
      spot = record { passed = omega arith; about = λ l. absurd (omega arith); parted = λ l. absurd (omega arith); known = λ l. absurd (omega arith) };
      passed = h;
    }

  -- ---- the end
  pub after_end : (counts : List ℕ) → from (length m) other_number counts ≡ []
  unfolding grade_segments cut but_last
  after_end counts = ap (λ (l : List ℕ). grade_segments out d (rules_in b s) (sets_in b s) counts other_number (but_last (cut carriage_return l))) (drop-length m)

  pub walk_end : (at last : ℕ) (counts : List ℕ) → length m ≤ end_from carriage_return m at → from at last counts ≡ of_order out last the_end 0
  unfolding grade_segments
  walk_end at last counts h = ap (grade_segments out d (rules_in b s) (sets_in b s) counts last) (ended_stop carriage_return m at h)

  pub no_segment : (begin at last : ℕ) (starts counts : List ℕ) (l : List Finding) → Holds b s → CountsStand m at counts → l ≡ from at last counts → length m ≤ end_from carriage_return m at
      → (r : Entered) → r ≡ end_entered out s.rule_count (length m) last → Opens out d m b s starts counts begin l r
  unfolding header_findings
  no_segment begin at last starts counts l holds stands passed h r e =
      subst⁻¹ (Opens out d m b s starts counts begin l) e (by (out last the_end) refl)
    where
      c : Cursor
      c = between_at none_wrong s.rule_count (length m) other_number

      by : (broken : Bool) → out last the_end ≡ broken → Opens out d m b s starts counts begin l (end_by broken c)
      by true e = (
        passed ∙ walk_end at last counts h ∙ rw e (ap (λ (k : List Finding). order_finding the_end 0 ∷ k) (sym (between_list holds none_wrong (length m) other_number counts ∙ after_end counts))),
        between-stands holds none_wrong (length m) other_number starts counts (counts-later (length m) stands stands.inside (omega arith)),
      )
      by false e = passed ∙ walk_end at last counts h ∙ rw e

  -- ---- one segment more, from `at` to stop
  module _ (at last : ℕ) (counts : List ℕ) (stands : CountsStand m at counts) (stop : ℕ) (is-end : stop ≡ end_from carriage_return m at) (more : stop < length m) where
    abbrev segment : List ℕ
    segment = between m at stop

    one_segment : from at last counts ≡ grade_segments out d (rules_in b s) (sets_in b s) counts last (segment ∷ but_last (cut carriage_return (drop (stop + 1) m)))
    one_segment =
        ap (grade_segments out d (rules_in b s) (sets_in b s) counts last)
        (subst⁻¹ (λ (x : ℕ). but_last (cut carriage_return (drop at m)) ≡ between m at x ∷ but_last (cut carriage_return (drop (x + 1) m))) is-end (ended_step carriage_return m at (omega arith)))

    module _ (name : ℕ) (named : name ≡ name_of segment) where
      -- a name that does not count
      pub other_one : segment_count < name → from at last counts ≡ from (stop + 1) last counts
      unfolding grade_segments
      other_one h = one_segment ∙ rw (← named, not-counted name h)

      -- a counted one
      counts-here : name ≤ segment_count → counted name ≡ true
      counts-here h = is_counted_lem name (omega (arith, named, name_bounds (get_or segment 0 0) (get_or segment 1 0) (get_or segment 2 0))) h

      abbrev ordinal : ℕ
      ordinal = get_or counts name 0 + 1

      pub counts_more : CountsStand m (stop + 1) (set counts name ordinal)
      counts_more = record {
        inside = omega arith;
        counted = set-bound counts name ordinal (stop + 1) (omega (arith, stands.counted name)) (λ k. omega (arith, stands.counted k));
      }

      module _ (count : ℕ) (single : Bool) where
        abbrev this : Here
        this = record { start = at; end = stop; name = name; ordinal = ordinal; count = count; single = single }

        pub this-stands : name ≤ segment_count → HereStands m this
        this-stands h = record { forward = omega arith; inside = omega arith; counts = counts-here h; named = msh-named segment ∙ ap (λ (n : ℕ). eqb n msh) (sym named) }

        pub counted_one : name ≤ segment_count → from at last counts ≡ of_segment out d m b s this last ++ from (stop + 1) name (set counts name ordinal)
        unfolding grade_segments
        counted_one h =
            one_segment
            ∙ rw (← named, counts-here h, ← add-one (get_or counts name 0)) (sym (append_assoc (of_order out last name ordinal) (rules_from d m b s this 0) (from (stop + 1) name (set counts name ordinal))))

      -- its cursor, before its rules
      module _ (begin : ℕ) (l : List Finding) (passed : l ≡ from at last counts) (ahead : begin ≤ at) (holds : Holds b s) {links : List ℕ} (linked : Linked (rules_in b s) links)
          (starts : List ℕ) (few : name ≤ segment_count) (first : ℕ) (is-link : first ≡ get_or links name 0) where
        is_first_lem : first ≡ next_about name 0 (rules_in b s)
        is_first_lem = is-link ∙ linked.first name (omega arith)

        is_about_lem : first < length (rules_in b s) → (get_or (rules_in b s) first no_rule).place.segment ≡ name
        is_about_lem = rw is_first_lem (about-next name (rules_in b s) 0)

        abbrev after : List ℕ
        after = set counts name ordinal

        entered_list : (count : ℕ) (single : Bool) → grade_rest out d m b s after (entered_at at stop name ordinal first count single) ≡ rules_from d m b s (this count single) 0 ++ from (stop + 1) name after
        entered_list count single =
            ap (λ (k : List Finding). k ++ from (stop + 1) name after)
            (ap (λ (i : ℕ). segment_rest d m b s (this count single) (first_spot i)) is_first_lem ∙ spot_begin d m b s (this count single) holds (this-stands count single few))

        entered_stands : (count : ℕ) (single : Bool) → (first < s.rule_count → Parted d segment starts count single) → Stands d m b s starts after (entered_at at stop name ordinal first count single)
        entered_stands count single parted = record {
          here = this-stands count single few;
          spot = record { passed = omega arith; about = λ h. is_about_lem (omega (arith, rules-length b s holds)); parted = parted; known = λ h. absurd (omega arith) };
          passed = counts_more;
        }

        pub opened : (r : Entered) → Enters out d m starts s.rule_count first at stop name ordinal last r → Opens out d m b s starts after begin l r
        unfolding header_findings
        opened (Entered.Order f c) (e, made, it) =
            subst⁻¹ (λ (x : Cursor). (l ≡ f ∷ rest out d m b s after x) × Stands d m b s starts after x) it.is
            (passed ∙ counted_one it.count it.single few ∙ rw e (λ i. sym made i ∷ sym (entered_list it.count it.single) i), entered_stands it.count it.single it.parted)
        opened (Entered.Rules c) (e, it) =
            subst⁻¹ (λ (x : Cursor). (l ≡ grade_rest out d m b s after x) × Stands d m b s starts after x × (begin < x.next)) it.is
            (passed ∙ counted_one it.count it.single few ∙ rw e (sym (entered_list it.count it.single)), entered_stands it.count it.single it.parted, omega arith)
        opened Entered.End none = absurd none

  -- ---- the header's findings come first
  pub header-next : {starts counts : List ℕ} {c x : Cursor} {f : Finding} {left : Header} → Stands d m b s starts counts c → take 1 (header_findings c.header) ≡ f ∷ []
      → header_findings left ≡ drop 1 (header_findings c.header) → x ≡ moved_to c left c.spot → Steps out d m b s starts counts (rest out d m b s counts c) (Some (f, x))
  header-next {starts} {counts} {c} {f = f} stands first later is =
      subst⁻¹ (λ (x : Cursor). (rest out d m b s counts c ≡ f ∷ rest out d m b s counts x) × Stands d m b s starts counts x) is
      (ap (λ (l : List Finding). l ++ grade_rest out d m b s counts c) (first-others (header_findings c.header) first later), record { here = stands.here; spot = stands.spot; passed = stands.passed })

  pub header-over : (starts counts before : List ℕ) (c : Cursor) → any_wrong c.header ≡ false → (r : Option (Finding × Cursor)) → Steps out d m b s starts counts (grade_rest out d m b s before c) r
      → Steps out d m b s starts counts (rest out d m b s before c) r
  header-over starts counts before c fine r =
      subst (λ (l : List Finding). Steps out d m b s starts counts l r) (ap (λ (l : List Finding). l ++ grade_rest out d m b s before c) (sym (none_found c.header fine)))

  -- ---- from a cursor on
  module _ (starts counts : List ℕ) (c : Cursor) (stands : Stands d m b s starts counts c) (l : List Finding) (same : l ≡ grade_rest out d m b s counts c) where
    abbrev of : Option (Finding × Spot) → Type 0
    of w = NextWithin d m b s starts c.here (segment_rest d m b s c.here c.spot) w

    pub cursor-found : {r : Option (Finding × Spot)} → of r → (f : Finding) (then : Spot) → r ≡ Some (f, then) → {none : Header} → none ≡ none_wrong → {x : Cursor} → x ≡ moved_to c none then → Steps out d m b s starts counts l (Some (f, x))
    unfolding header_findings
    cursor-found h f then e fine is =
        let got = subst of e h in
        subst⁻¹ (λ (x : Cursor). (l ≡ f ∷ rest out d m b s counts x) × Stands d m b s starts counts x) (is ∙ ap (λ (header : Header). moved_to c header then) fine) (
          same ∙ ap (λ (k : List Finding). k ++ from c.next c.last counts) got.0,
          record { here = stands.here; spot = got.1; passed = stands.passed },
        )

    pub cursor-fine : {r : Option (Finding × Spot)} → of r → r ≡ None → l ≡ from c.next c.last counts
    cursor-fine h e = same ∙ ap (λ (k : List Finding). k ++ from c.next c.last counts) (subst of e h)

  -- ---- and from the next segment on
  module _ (starts counts : List ℕ) (begin : ℕ) {l k : List Finding} (r : Entered) (h : Opens out d m b s starts counts begin k r) (same : l ≡ k) where
    abbrev opens : Entered → Type 0
    opens = Opens out d m b s starts counts begin k

    pub then_order : {f : Finding} {c : Cursor} → r ≡ Entered.Order f c → Steps out d m b s starts counts l (Some (f, c))
    then_order e = let got = subst opens e h in (same ∙ got.0, got.1)

    pub then_rules : {c : Cursor} → r ≡ Entered.Rules c → Opens out d m b s starts counts begin l (Entered.Rules c)
    then_rules e = let got = subst opens e h in (same ∙ got.0, got.1, got.2)

    pub then_end : r ≡ Entered.End → l ≡ []
    then_end e = same ∙ subst opens e h

-- ---- before the first segment
pub start-counts : (m : List ℕ) → CountsStand m 0 (replicate name_places 0)
start-counts m = record { inside = omega arith; counted = λ k. omega (arith, zeros name_places k) }

pub start_list : (follows : ℕ → ℕ → Bool) (m b : List ℕ) (s : Section) → grade_from (out_of_order follows) (delims_of m) m b s 0 other_number (replicate name_places 0) ≡ findings follows (rules_in b s) (sets_in b s) m
start_list follows m b s = walk_all follows (rules_in b s) (sets_in b s) m

-- ---- another order that says the same, other delimiters that are the same
pub list_as : (m b : List ℕ) (s : Section) {out : ℕ → ℕ → Bool} {d : Delims} (follows : ℕ → ℕ → Bool) → out ≡ out_of_order follows → d ≡ delims_of m
    → grade_from out d m b s 0 other_number (replicate name_places 0) ≡ findings follows (rules_in b s) (sets_in b s) m
list_as m b s follows e f = ap₂ (λ (o : ℕ → ℕ → Bool) (x : Delims). grade_from o x m b s 0 other_number (replicate name_places 0)) e f ∙ start_list follows m b s
