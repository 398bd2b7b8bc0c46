-- The walk over the segments, which carries counts and the last name along, gives the findings by place. Assumes nothing.
use Prim.Native.Nat.{ℕ, zero, suc, ◌+◌, ◌<◌}
use mathlib.Core.Path.{◌≡◌, refl, sym, ap, ap₂, ◌∙◌}
use mathlib.Core.Bool.{Bool, true, false, cond, ◌&&◌}
use mathlib.Core.List.{List, [], ◌∷◌, ◌++◌, map, append_assoc, append-nil}
use native.Mathlib.Decide.{ℕ_discrete}
use native.Mathlib.Omega.{arith}
use borrow.Author.Tests.{eq-eqb, ne_eqb}
use lib.Dec.{eqb}
use lib.ListN.{length, get_or, set, replicate, length-set, length-map, get_or-eq_default}
use lib.Seq.{get_or-set_same, get_or-set_other}
use Rattle.hl7.specs.Place.{delims_of, segments_of}
use Rattle.grade.specs.Strict.{keep, count_from, pairs_from}
use Rattle.grade.specs.Limits.{name_places}
use Rattle.grade.specs.Rule.{the_end, counted, other_number, no_rule}
use Rattle.grade.specs.Order.{name_of, name_at, name_before, earlier, out_of_order}
use Rattle.grade.specs.Broken.{breaks_rule}
use Rattle.grade.specs.Findings.{is_about, rule_numbered, segment_at, named, values_at, order_broken, ordinal_at, finding_at, finding_of, breaks_at, breaks, turns, findings, value_finding, order_finding}
use Rattle.grade.specs.Rest.{broken_values, of_rule, of_rules, of_order, grade_segments}
use Rattle.grade.specs.declared.rule.Rule.{Rule}
use Rattle.grade.specs.declared.finding.Finding.{Finding}
use Rattle.grade.proofs.Naming.{counted_bounds, uncounted}

-- ---- a list that is a function's values from n on
module _ {A : Type 0} (none : A) (f : ℕ → A) where
  abbrev Agrees : List A → ℕ → Type 0
  Agrees l n = (k : ℕ) → get_or l k none ≡ f (n + k)

  agrees_head : (x : A) (l : List A) (n : ℕ) → Agrees (x ∷ l) n → x ≡ f n
  agrees_head x l n h = let here : n + 0 ≡ n = omega arith in h 0 ∙ ap f here

  agrees_tail : (x : A) (l : List A) (n : ℕ) → Agrees (x ∷ l) n → Agrees l (suc n)
  agrees_tail x l n h k = let next : n + suc k ≡ suc n + k = omega arith in h (suc k) ∙ ap f next

  agrees_all : (l : List A) → ((k : ℕ) → get_or l k none ≡ f k) → Agrees l 0
  agrees_all l h k = let same : k ≡ 0 + k = omega arith in h k ∙ ap f same

-- ---- the findings of what a test keeps
module _ {A : Type 0} (f : A → Finding) (t : A → Bool) where
  abbrev found : List A → List Finding
  found l = map f (keep t l)

  found-append : (l k : List A) → found (l ++ k) ≡ found l ++ found k
  unfolding keep
  found-append [] k = refl
  found-append (x ∷ l) k = step (t x) (found-append l k)
    where
      step : (b : Bool) → found (l ++ k) ≡ found l ++ found k → map f (cond b (x ∷ keep t (l ++ k)) (keep t (l ++ k))) ≡ map f (cond b (x ∷ keep t l) (keep t l)) ++ found k
      step true ih = ap (λ (r : List Finding). f x ∷ r) ih
      step false ih = ih

  found_none : (l : List A) → ((x : A) → t x ≡ false) → found l ≡ []
  unfolding keep
  found_none [] h = refl
  found_none (x ∷ l) h = rw (h x) (found_none l h)

module _ {A : Type 0} (f : ℕ × A → Finding) (t : ℕ × A → Bool) where
  found_paired : (n : ℕ) (l : List A) → found f t (map (λ (a : A). (n, a)) l) ≡ found (λ (a : A). f (n, a)) (λ (a : A). t (n, a)) l
  unfolding keep
  found_paired n [] = refl
  found_paired n (x ∷ l) = step (t (n, x)) (found_paired n l)
    where
      step : (b : Bool) → found f t (map (λ (a : A). (n, a)) l) ≡ found (λ (a : A). f (n, a)) (λ (a : A). t (n, a)) l → map f (cond b ((n, x) ∷ keep t (map (λ (a : A). (n, a)) l)) (keep t (map (λ (a : A). (n, a)) l))) ≡ map (λ (a : A). f (n, a)) (cond b (x ∷ keep (λ (a : A). t (n, a)) l) (keep (λ (a : A). t (n, a)) l))
      step true ih = ap (λ (r : List Finding). f (n, x) ∷ r) ih
      step false ih = ih

  found_pairs : (n k : ℕ) (g : ℕ → List A) → found f t (pairs_from n (suc k) g) ≡ found (λ (a : A). f (n, a)) (λ (a : A). t (n, a)) (g n) ++ found f t (pairs_from (suc n) k g)
  unfolding pairs_from
  found_pairs n k g = found-append f t (map (λ (a : A). (n, a)) (g n)) (pairs_from (suc n) k g) ∙ ap (λ (l : List Finding). l ++ found f t (pairs_from (suc n) k g)) (found_paired n (g n))

-- ---- the values of a rule's field
module _ (test : ℕ → List ℕ → Bool) (make : ℕ → Finding) (at : ℕ → List ℕ) where
  values-found : (vs : List (List ℕ)) (r : ℕ) → Agrees [] at vs r → found (λ (k : ℕ). make (suc k)) (λ (k : ℕ). test k (at k)) (count_from r (length vs)) ≡ map make (broken_values test r vs)
  unfolding keep count_from broken_values
  values-found [] r h = refl
  values-found (v ∷ vs) r h = rw (← agrees_head [] at v vs r h) (step (test r v) (values-found vs (suc r) (agrees_tail [] at v vs r h)))
    where
      others : List ℕ
      others = keep (λ (k : ℕ). test k (at k)) (count_from (suc r) (length vs))

      step : (b : Bool) → map (λ (k : ℕ). make (suc k)) others ≡ map make (broken_values test (suc r) vs) → map (λ (k : ℕ). make (suc k)) (cond b (r ∷ others) others) ≡ map make (cond b (suc r ∷ broken_values test (suc r) vs) (broken_values test (suc r) vs))
      step true ih = ap (λ (l : List Finding). make (suc r) ∷ l) ih
      step false ih = ih

  rule_found : (about : Bool) (vs : List (List ℕ)) → Agrees [] at vs 0 → found (λ (k : ℕ). make (suc k)) (λ (k : ℕ). about && test k (at k)) (count_from 0 (length vs)) ≡ cond about (map make (broken_values test 0 vs)) []
  rule_found true vs h = values-found vs 0 h
  rule_found false vs h = found_none _ _ (count_from 0 (length vs)) (λ k. refl)

-- ---- names
name_at_lem : (s : List (List ℕ)) (n : ℕ) → n < length s → name_at s n ≡ name_of (get_or s n [])
name_at_lem [] n h = absurd (omega arith)
name_at_lem (x ∷ s) zero h = refl
name_at_lem (x ∷ s) (suc n) h = name_at_lem s n (omega arith)

name-at_end : (s : List (List ℕ)) (n : ℕ) → n ≡ length s → name_at s n ≡ the_end
name-at_end s n e = get_or-eq_default (map name_of s) the_end (omega (arith, length-map s name_of))

module _ (o : ℕ → ℕ → Bool) (c : List Rule) (t : List (List (List ℕ))) (m : List ℕ) where
  abbrev s : List (List ℕ)
  s = segments_of m

  abbrev rules_at : ℕ → ℕ → List ℕ → ℕ → List Rule → List Finding
  rules_at = of_rules (delims_of m) t

  -- ---- the rules at segment n
  module _ (n : ℕ) where
    abbrev here : ℕ × ℕ → Finding
    here p = finding_at o c t m n p.0 p.1

    abbrev test : ℕ × ℕ → Bool
    test p = breaks_at o c t m n p.0 p.1

    abbrev values : ℕ → List ℕ
    values j = count_from 0 (turns o c t m n j)

    rules-found : (rules : List Rule) (i : ℕ) → Agrees no_rule (rule_numbered o c t m) rules i → found here test (pairs_from (suc i) (length rules) values) ≡ rules_at (named o c t m n) (ordinal_at o c t m n) (segment_at o c t m n) i rules
    unfolding of_rules keep pairs_from
    rules-found [] i h = refl
    rules-found (rule ∷ rules) i h =
        found_pairs here test (suc i) (length rules) values
        ∙ ap₂ {C = List Finding} ◌++◌ one (rules-found rules (suc i) (agrees_tail no_rule (rule_numbered o c t m) rule rules i h))
      where
        one : found (λ (r : ℕ). finding_at o c t m n (suc i) r) (λ (r : ℕ). breaks_at o c t m n (suc i) r) (values (suc i)) ≡ of_rule (delims_of m) t (named o c t m n) (ordinal_at o c t m n) (segment_at o c t m n) (suc i) rule
        one =
            let this = rule_numbered o c t m i in
            rule_found (breaks_rule t this) (value_finding (named o c t m n) (ordinal_at o c t m n) this (suc i)) (λ (r : ℕ). get_or (values_at o c t m n i) r []) (is_about this (named o c t m n)) (values_at o c t m n i) (agrees_all [] _ (values_at o c t m n i) (λ k. refl))
            ∙ ap (of_rule (delims_of m) t (named o c t m n) (ordinal_at o c t m n) (segment_at o c t m n) (suc i)) (sym (agrees_head no_rule (rule_numbered o c t m) rule rules i h))

    -- at a name that does not count there are none
    rules-none : (name ordinal : ℕ) (segment : List ℕ) (rules : List Rule) (i : ℕ) → counted name ≡ false → rules_at name ordinal segment i rules ≡ []
    unfolding of_rules
    rules-none name ordinal segment [] i e = refl
    rules-none name ordinal segment (rule ∷ rules) i e = rw e (rules-none name ordinal segment rules (suc i) e)

    all_found : found here test (pairs_from 0 (suc (length c)) values) ≡ of_order (out_of_order o) (name_before s n) (named o c t m n) (ordinal_at o c t m n) ++ rules_at (named o c t m n) (ordinal_at o c t m n) (segment_at o c t m n) 0 c
    unfolding keep count_from
    all_found =
        found_pairs here test 0 (length c) values
        ∙ ap₂ {C = List Finding} ◌++◌ (order (order_broken o c t m n)) (rules-found c 0 (agrees_all no_rule (rule_numbered o c t m) c (λ k. refl)))
      where
        order : (b : Bool) → map (λ (r : ℕ). finding_at o c t m n 0 r) (cond b (0 ∷ []) []) ≡ cond b (order_finding (named o c t m n) (ordinal_at o c t m n) ∷ []) []
        order true = refl
        order false = refl

  -- ---- the segments from n on
  abbrev at : ℕ → List (ℕ × ℕ)
  at n = pairs_from 0 (suc (length c)) (values n)

  -- what the walk carries along is what stands before place n
  record Carried (n last : ℕ) (counts : List ℕ) : Type 0 where
    before : last ≡ name_before s n
    many : length counts ≡ name_places
    each : (k : ℕ) → k < name_places → get_or counts k 0 ≡ earlier s k n

  -- one place after a counted segment, and after another
  carried_on : (n last name : ℕ) (counts : List ℕ) → name_at s n ≡ name → counted name ≡ true → Carried n last counts → Carried (suc n) name (set counts name (suc (get_or counts name 0)))
  unfolding name_before earlier
  carried_on n last name counts e h old = record {
    before = sym (rw (e, h));
    many = length-set counts name _ ∙ old.many;
    each = λ k small. rw e (by k small (ℕ_discrete k name));
  }
    where
      by : (k : ℕ) → k < name_places → Dec (k ≡ name) → get_or (set counts name (suc (get_or counts name 0))) k 0 ≡ cond (eqb name k) (suc (earlier s k n)) (earlier s k n)
      by k small (yes p) = rw (eq-eqb name k (sym p), p) (get_or-set_same counts name _ 0 (omega (arith, old.many, counted_bounds name h)) ∙ ap suc (old.each name (omega (arith, counted_bounds name h))))
      by k small (no p) = rw (ne_eqb name k (λ q. p (sym q))) (get_or-set_other counts name k _ 0 p ∙ old.each k small)

  carried_over : (n last : ℕ) (counts : List ℕ) → name_at s n ≡ other_number → Carried n last counts → Carried (suc n) last counts
  unfolding name_before earlier
  carried_over n last counts e old = record {
    before = old.before ∙ sym (rw e);
    many = old.many;
    each = λ k small. old.each k small ∙ sym (rw (e, ne_eqb other_number k (λ q. omega arith)));
  }

  -- ---- the places from n on, those of n first
  abbrev of_place : ℕ → ℕ → ℕ → List ℕ → List Finding
  of_place last name ordinal segment = of_order (out_of_order o) last name ordinal ++ rules_at name ordinal segment 0 c

  abbrev later_places : ℕ → ℕ → List Finding
  later_places n k = found (finding_of o c t m) (breaks o c t m) (pairs_from n k at)

  place_found : (n k last name ordinal : ℕ) (segment : List ℕ) → last ≡ name_before s n → name ≡ name_at s n → ordinal ≡ ordinal_at o c t m n → segment ≡ segment_at o c t m n → of_place last name ordinal segment ++ later_places (suc n) k ≡ later_places n (suc k)
  place_found n k last name ordinal segment p q r w =
      (λ i. of_place (p i) (q i) (r i) (w i) ++ later_places (suc n) k)
      ∙ sym (found_pairs (finding_of o c t m) (breaks o c t m) n k at ∙ ap (λ (l : List Finding). l ++ later_places (suc n) k) (all_found n))

  number_at : (n name ordinal : ℕ) → name ≡ name_at s n → counted name ≡ true → ordinal ≡ suc (earlier s name n) → ordinal ≡ ordinal_at o c t m n
  number_at n name ordinal q e h = h ∙ sym (rw (← q, e))

  no_number_at : (n name : ℕ) → name ≡ name_at s n → counted name ≡ false → 0 ≡ ordinal_at o c t m n
  no_number_at n name q e = sym (rw (← q, e))

  end_found : (n last : ℕ) → n ≡ length s → last ≡ name_before s n → of_order (out_of_order o) last the_end 0 ≡ later_places n 1
  unfolding keep pairs_from
  end_found n last e before =
      let name : the_end ≡ name_at s n = sym (name-at_end s n e) in
      sym (append-nil (of_order (out_of_order o) last the_end 0)) ∙ ap (λ (l : List Finding). of_order (out_of_order o) last the_end 0 ++ l) (sym (rules-none n the_end 0 (segment_at o c t m n) c 0 refl))
      ∙ sym (append-nil (of_place last the_end 0 (segment_at o c t m n)))
      ∙ place_found n 0 last the_end 0 (segment_at o c t m n) before name (no_number_at n the_end name refl) refl

  -- a segment that does not count gives nothing
  quiet : (last : ℕ) (segment : List ℕ) → of_place last other_number 0 segment ≡ []
  quiet last segment = ap₂ {C = List Finding} ◌++◌ (by (counted last)) (rules-none 0 other_number 0 segment c 0 refl)
    where
      by : (b : Bool) → cond (b && false) (order_finding other_number 0 ∷ []) [] ≡ []
      by true = refl
      by false = refl

  abbrev walked : List ℕ → ℕ → List (List ℕ) → List Finding
  walked = grade_segments (out_of_order o) (delims_of m) c t

  walk_found : (segments : List (List ℕ)) (n last : ℕ) (counts : List ℕ) → n + length segments ≡ length s → Agrees [] (segment_at o c t m) segments n → Carried n last counts → walked counts last segments ≡ later_places n (suc (length segments))
  unfolding grade_segments
  walk_found [] n last counts len agrees old = end_found n last (omega arith) old.before
  walk_found (segment ∷ segments) n last counts len agrees old = by (counted (name_of segment)) refl (walk_found segments (suc n))
    where
      here-is : segment ≡ segment_at o c t m n
      here-is = agrees_head [] (segment_at o c t m) segment segments n agrees

      later : Agrees [] (segment_at o c t m) segments (suc n)
      later = agrees_tail [] (segment_at o c t m) segment segments n agrees

      name : ℕ
      name = name_of segment

      is-named : name ≡ name_at s n
      is-named = ap name_of here-is ∙ sym (name_at_lem s n (omega arith))

      ordinal : ℕ
      ordinal = suc (get_or counts name 0)

      other : counted name ≡ false → name ≡ other_number
      other = uncounted _ _ _

      by : (b : Bool) → counted name ≡ b → ((last' : ℕ) (counts' : List ℕ) → suc n + length segments ≡ length s → Agrees [] (segment_at o c t m) segments (suc n) → Carried (suc n) last' counts' → walked counts' last' segments ≡ later_places (suc n) (suc (length segments))) → cond b (of_order (out_of_order o) last name ordinal ++ (rules_at name ordinal segment 0 c ++ walked (set counts name ordinal) name segments)) (walked counts last segments) ≡ later_places n (suc (suc (length segments)))
      by true e ih =
          ap (λ (l : List Finding). of_order (out_of_order o) last name ordinal ++ (rules_at name ordinal segment 0 c ++ l)) (ih name (set counts name ordinal) (omega arith) later (carried_on n last name counts (sym is-named) e old))
          ∙ sym (append_assoc (of_order (out_of_order o) last name ordinal) (rules_at name ordinal segment 0 c) (later_places (suc n) (suc (length segments))))
          ∙ place_found n (suc (length segments)) last name ordinal segment old.before is-named (number_at n name ordinal is-named e (ap suc (old.each name (omega (arith, counted_bounds name e))))) here-is
      by false e ih =
          ih last counts (omega arith) later (carried_over n last counts (sym is-named ∙ other e) old)
          ∙ ap (λ (l : List Finding). l ++ later_places (suc n) (suc (length segments))) (sym (ap (λ (k : ℕ). of_place last k 0 segment) (other e) ∙ quiet last segment))
          ∙ place_found n (suc (length segments)) last name 0 segment old.before is-named (no_number_at n name is-named e) here-is

-- ---- the walk from the first segment on
pub zeros : (n k : ℕ) → ◌≡◌ {A = ℕ} (get_or (replicate n 0) k 0) 0
zeros zero k = refl
zeros (suc n) zero = refl
zeros (suc n) (suc k) = zeros n k

pub walk_all : (o : ℕ → ℕ → Bool) (c : List Rule) (t : List (List (List ℕ))) (m : List ℕ) → grade_segments (out_of_order o) (delims_of m) c t (replicate name_places 0) other_number (segments_of m) ≡ findings o c t m
unfolding findings name_before earlier
walk_all o c t m = walk_found o c t m (segments_of m) 0 other_number _ (omega arith) (agrees_all [] (segment_at o c t m) (segments_of m) (λ k. refl)) (record { before = refl; many = refl; each = λ k h. zeros name_places k })
