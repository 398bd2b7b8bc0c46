-- What a section that `Holds` has: its rules by number, within their limits, and its sets. Assumes nothing.
use Rattle.std.specs.Prelude.{Some}
use Prim.Native.Nat.{ℕ, zero, suc, ◌+◌, ◌*◌, ◌<◌, ◌≤◌}
use mathlib.Core.Path.{◌≡◌, refl, sym, ap, ◌∙◌}
use mathlib.Core.Bool.{true, ◌&&◌}
use mathlib.Core.List.{List, [], ◌∷◌, map}
use native.Mathlib.Decide.{dec_lt}
use native.Mathlib.Omega.{arith}
use borrow.Author.Tests.{leb-true}
use lib.Dec.{leb}
use lib.ListN.{length, get_or, take}
use lib.Seq.{slice, get_or-take, length-take-le, ext_get_or}
use Rattle.hl7.specs.Bytes.{within, all}
use Rattle.hl7.proofs.Comparing.{and_both, all-at}
use Rattle.grade.specs.declared.walk.Section.{Section}
use Rattle.grade.specs.declared.rule.Kind.{Kind}
use Rattle.grade.specs.declared.rule.Place.{Place}
use Rattle.grade.specs.declared.rule.Rule.{Rule}
use Rattle.grade.specs.Limits.{rule_size, field_limit, component_limit}
use Rattle.grade.specs.Reader.{found, is_found, items_of, times}
use Rattle.grade.specs.Rule.{counted, name_of_letters, first_field, place_fits, kind_fits, rule_said, rule_of, rule_fits, no_rule}
use Rattle.grade.specs.Book.{rule_in, code_set}
use Rattle.grade.specs.Standing.{starting, rules_in, sets_in, Holds, codes_at, SetAt, Placed}
use Rattle.grade.proofs.Readings.{then_found, found-same, ended, row_at, row-length, starts-say, starts-stand}
use Rattle.grade.proofs.Parts.{place-there, rule_found, read_said, read_fits}

module _ (b : List ℕ) (s : Section) (h : Holds b s) where
  rules_read_lem : times s.rule_count (rule_in s.set_count) b s.rules_at ≡ found (rules_in b s) s.sets_at
  unfolding rules_in
  rules_read_lem =
      let w = ended (times s.rule_count (rule_in s.set_count) b s.rules_at) s.sets_at h.rules_end in
      w.1 ∙ ap (λ (rs : List Rule). found rs s.sets_at) (sym (ap items_of w.1))

  pub sets_read_lem : times s.set_count code_set b s.sets_at ≡ found (sets_in b s) h.sets_after
  unfolding sets_in
  sets_read_lem =
      let w = ended (times s.set_count code_set b s.sets_at) h.sets_after h.sets_end in
      w.1 ∙ ap (λ (ss : List (List (List ℕ))). found ss h.sets_after) (sym (ap items_of w.1))

  pub rules-length : length (rules_in b s) ≡ s.rule_count
  rules-length = row-length (rule_in s.set_count) b s.rule_count s.rules_at (rules_in b s) s.sets_at rules_read_lem

  module _ (i : ℕ) (k : i < s.rule_count) where
    -- the ten bytes of a rule
    pub its_bytes : (s.rules_at + rule_size * i + rule_size ≤ length b)
        × (rule_of s.set_count (slice (s.rules_at + rule_size * i) (s.rules_at + rule_size * i + rule_size) b) ≡ Some (get_or (rules_in b s) i no_rule))
    its_bytes =
        let sets = s.set_count in
        let at = s.rules_at + rule_size * i in
        let r = get_or (rules_in b s) i no_rule in
        let q = row_at (rule_in sets) b rule_size (λ at r e f. (rule_found sets b at r e f).2) no_rule s.rule_count s.rules_at (rules_in b s) s.sets_at i rules_read_lem k in
        let f = rule_found sets b at r (at + rule_size) q in
        (f.0, f.1)

    -- what they say
    pub its_said : rule_said (slice (s.rules_at + rule_size * i) (s.rules_at + rule_size * i + rule_size) b) ≡ Some (get_or (rules_in b s) i no_rule)
    its_said =
        let at = s.rules_at + rule_size * i in
        read_said s.set_count (slice at (at + rule_size) b) (get_or (rules_in b s) i no_rule) its_bytes.1

    -- the three letters of its segment
    pub its_name :
        name_of_letters (get_or b (s.rules_at + rule_size * i) 0) (get_or b (s.rules_at + rule_size * i + 1) 0) (get_or b (s.rules_at + rule_size * i + 2) 0)
        ≡ (get_or (rules_in b s) i no_rule).place.segment
    its_name =
        let at = s.rules_at + rule_size * i in
        ap (λ (p : Place). p.segment) (place-there s.set_count b at (get_or (rules_in b s) i no_rule) its_bytes.1)

    -- a rule of the section is within its limits
    pub rule_fits_lem : rule_fits s.set_count (get_or (rules_in b s) i no_rule) ≡ true
    rule_fits_lem =
        let at = s.rules_at + rule_size * i in
        read_fits s.set_count (slice at (at + rule_size) b) (get_or (rules_in b s) i no_rule) its_bytes.1

-- each set of the section stands at its place
pub placed_at : (b : List ℕ) (s : Section) {places : List ℕ} → Placed b s places → Holds b s → (k : ℕ) → k < s.set_count → SetAt b (sets_in b s) k (get_or places k 0)
placed_at b s {places} w h k l =
    let n = s.set_count in
    let q = then_found (times n (starting code_set) b s.sets_at) _ (sets_in b s) h.sets_after (sym (starts-say code_set b items_of (λ c e. refl) n s.sets_at) ∙ sets_read_lem b s h) in
    let starts : q.0 ≡ take n places = sym (w.starts ∙ ap items_of q.2) in
    let sets : map (codes_at b) (take n places) ≡ sets_in b s = ap (map (codes_at b)) (sym starts) ∙ (found-same (map (codes_at b) q.0) (sets_in b s) q.1 h.sets_after q.3).0 in
    let long : k < length (take n places) = rw (length-take-le n places (omega (arith, w.sized, h.few_sets))) l in
    let here : get_or (take n places) k 0 ≡ get_or places k 0 = get_or-take n places k 0 l in
    rw (← here)
    (record {
      stands = all-at (λ at. is_found (code_set b at)) (take n places) k (ap (all (λ at. is_found (code_set b at))) (sym starts) ∙ starts-stand code_set b n s.sets_at q.0 q.1 q.2) long;
      codes = sym (ap (λ (ss : List (List (List ℕ))). get_or ss k []) (sym sets) ∙ get_d_map (codes_at b) (take n places) k long);
    })
  where
    get_d_map : {A : Type 0} (f : ℕ → List A) (l : List ℕ) (k : ℕ) → k < length l → get_or (map f l) k [] ≡ f (get_or l k 0)
    get_d_map f [] k h = absurd (omega arith)
    get_d_map f (x ∷ l) zero h = refl
    get_d_map f (x ∷ l) (suc k) h = get_d_map f l k (omega arith)

-- any two results that the contract of `sets_of` allows are equal
pub sets_once : (b : List ℕ) (s : Section) {p q : List ℕ} → Placed b s p → Placed b s q → p ≡ q
sets_once b s {p} {q} v w = ext_get_or 0 p q (v.sized ∙ sym w.sized) (λ k h. by k (dec_lt k s.set_count))
  where
    by : (k : ℕ) → Dec (k < s.set_count) → get_or p k 0 ≡ get_or q k 0
    by k (yes h) =
        sym (get_or-take s.set_count p k 0 h) ∙ ap (λ (l : List ℕ). get_or l k 0) (v.starts ∙ sym w.starts) ∙ get_or-take s.set_count q k 0 h
    by k (no h) = v.past k (omega (arith, h)) ∙ sym (w.past k (omega (arith, h)))

-- what the limits say of a place
pub record PlaceFits (p : Place) : Type 0 where
  pub segment : counted p.segment ≡ true
  pub first : first_field p.segment ≤ p.field
  pub last : p.field ≤ field_limit
  pub component : p.component ≤ component_limit

pub place_limits : (sets : ℕ) (r : Rule) → rule_fits sets r ≡ true → PlaceFits r.place
unfolding place_fits
place_limits sets r h =
    let p = r.place in
    let w = and_both (place_fits p) (kind_fits sets r.kind) h in
    let u = and_both (counted p.segment && within (first_field p.segment) field_limit p.field) (leb p.component component_limit) w.0 in
    let v = and_both (counted p.segment) (within (first_field p.segment) field_limit p.field) u.0 in
    let f = and_both (leb (first_field p.segment) p.field) (leb p.field field_limit) v.1 in
    record {
      segment = v.0;
      first = leb-true (first_field p.segment) p.field f.0;
      last = leb-true p.field field_limit f.1;
      component = leb-true p.component component_limit u.1;
    }

-- and of a kind
pub kind_limits : (sets : ℕ) (r : Rule) → rule_fits sets r ≡ true → kind_fits sets r.kind ≡ true
kind_limits sets r h = (and_both (place_fits r.place) (kind_fits sets r.kind) h).1

pub code_limits : (sets set : ℕ) → kind_fits sets (Kind.Code set) ≡ true → (1 ≤ set) × (set ≤ sets)
code_limits sets set h =
    let w = and_both (leb 1 set) (leb set sets) h in
    (leb-true 1 set w.0, leb-true set sets w.1)
