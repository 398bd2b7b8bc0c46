-- `findings` meets demand 3, and no other list does. Assumes nothing.
use Prim.Native.Nat.{ℕ, zero, suc, ◌≤◌, ◌<◌}
use mathlib.Core.Path.{◌≡◌, refl, sym, ap, subst, ◌∙◌}
use mathlib.Core.Bool.{Bool, true, false, ◌&&◌}
use mathlib.Core.Logic.{◌↔◌}
use mathlib.Core.List.{List, [], map, Memᴰ}
use native.Mathlib.Omega.{arith}
use native.Mathlib.Decide.{dec_lt}
use lib.ListN.{length, get_or, length-map, get_or-eq_default}
use lib.Dec.{T, eqb}
use Rattle.hl7.specs.Place.{segments_of}
use Rattle.grade.specs.Rule.{the_end, counted}
use Rattle.grade.specs.Order.{name_at, name_of}
use Rattle.grade.specs.Broken.{breaks_rule}
use Rattle.grade.specs.Strict.{Increasing, keep}
use Rattle.grade.specs.Findings.{is_about, Event, Earlier, BreaksAt, Demand3, breaks, breaks_at, turns, places, findings, finding_of, named, values_at, rule_numbered}
use Rattle.grade.specs.declared.rule.Rule.{Rule}
use Rattle.grade.specs.declared.finding.Finding.{Finding}
use Rattle.grade.proofs.Increasing.{by_members, lex_asym, lt_asym, mem_keep, increasing_keep, mem_count, increasing_count, mem_pairs, increasing_pairs}

earlier_asym : (x y : Event) → Earlier x y → Earlier y x → ⊥
earlier_asym = lex_asym _ (lex_asym _ lt_asym)

T_fst : (a b : Bool) → T (a && b) → T a
T_fst true b h = tt
T_fst false b h = h

-- a counted name does not stand at the end
pub counted-within : (s : List (List ℕ)) (n : ℕ) → T (counted (name_at s n)) → n < length s
counted-within s n h = by (dec_lt n (length s))
  where
    by : Dec (n < length s) → n < length s
    by (yes p) = p
    by (no p) = absurd (subst (λ (k : ℕ). T (counted k)) (get_or-eq_default (map name_of s) the_end (subst (λ (k : ℕ). k ≤ n) (sym (length-map s name_of)) (omega arith))) h)

module _ (o : ℕ → ℕ → Bool) (c : List Rule) (t : List (List (List ℕ))) (m : List ℕ) where
  places_increasing : Increasing Earlier (places o c t m)
  places_increasing = increasing_pairs _ _ _ _ (λ n. increasing_pairs _ _ _ _ (λ j. increasing_count _ _))

  -- a place is one of the message's
  Within : ℕ → ℕ → ℕ → Type 0
  Within n j r = (n ≤ length (segments_of m)) × (j ≤ length c) × (r < turns o c t m n j)

  mem_places : (e : Event) → Memᴰ e (places o c t m) ↔ Within e.0 e.1.0 e.1.1
  unfolding Within
  mem_places e = (
    λ h. let p = (mem_pairs e 0 _ _).0 h in let q = (mem_pairs e.1 0 _ _).0 p.2 in let r = (mem_count e.1.1 0 _).0 q.2 in (omega arith, omega arith, omega arith),
    λ h. (mem_pairs e 0 _ _).1 (omega arith, omega arith, (mem_pairs e.1 0 _ _).1 (omega arith, omega arith, (mem_count e.1.1 0 _).1 (omega arith))),
  )

  -- an event is one exactly when it is a place of the message and the test there says so
  breaks_by-test : (n j r : ℕ) → (Within n j r × T (breaks_at o c t m n j r)) ↔ BreaksAt o c t m n j r
  unfolding Within
  breaks_by-test n zero r = (λ h. (h.0.0, omega arith, h.1), λ h. ((h.0, omega arith, omega arith), h.2))
  breaks_by-test n (suc i) r =
      let rule = rule_numbered o c t m i in
      let name = named o c t m n in
      (λ h. (counted-within (segments_of m) n (T_fst (counted name) (eqb rule.place.segment name) (T_fst (is_about rule name) (breaks_rule t rule r (get_or (values_at o c t m n i) r [])) h.1)), h.0.1, h.0.2, h.1), λ h. ((omega arith, h.1, h.2), h.3))

  pub findings_meet : Demand3 o c t m (findings o c t m)
  unfolding findings
  findings_meet = record {
    events = keep (breaks o c t m) (places o c t m);
    in_order = increasing_keep (breaks o c t m) Earlier (places o c t m) places_increasing;
    exactly = λ e. (
      λ h. let k = (mem_keep (breaks o c t m) e (places o c t m)).0 h in (breaks_by-test _ _ _).0 ((mem_places e).0 k.0, k.1),
      λ b. let h = (breaks_by-test _ _ _).1 b in (mem_keep (breaks o c t m) e (places o c t m)).1 ((mem_places e).1 h.0, h.1),
    );
    listed = refl;
  }

  pub findings_only : (L : List Finding) → Demand3 o c t m L → L ≡ findings o c t m
  findings_only L d =
      d.listed
      ∙ ap (map (finding_of o c t m)) (by_members Earlier earlier_asym d.events all.events d.in_order all.in_order (λ e. (λ x. (all.exactly e).1 ((d.exactly e).0 x), λ x. (d.exactly e).1 ((all.exactly e).0 x))))
      ∙ sym all.listed
    where
      all : Demand3 o c t m (findings o c t m)
      all = findings_meet
