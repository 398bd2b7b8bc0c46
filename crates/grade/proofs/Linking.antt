-- Laws of `specs/Linked.antt`: the next rule about a name, the links of one rule more, and that the rules passed over give nothing.
-- Assumes nothing.
use Prim.Native.Nat.{ℕ, zero, suc, ◌+◌, ◌-◌, ◌≤◌, ◌<◌}
use mathlib.Core.Path.{◌≡◌, refl, sym, ap, subst⁻¹, ◌∙◌}
use mathlib.Core.List.{List, ◌++◌}
use native.Mathlib.Decide.{dec_lt, ℕ_discrete}
use native.Mathlib.Numerals.{add-one}
use native.Mathlib.Omega.{arith}
use borrow.Author.Tests.{eq-eqb, ne_eqb}
use lib.ListN.{length, get_or, drop, set, replicate, get_or-replicate, length-set, drop_of_length-le}
use lib.Seq.{drop-cons, get_or-set_same, get_or-set_other, ext_get_or}
use Rattle.hl7.specs.declared.place.Delims.{Delims}
use Rattle.grade.specs.Limits.{name_places, link_limit}
use Rattle.grade.specs.Rule.{no_rule}
use Rattle.grade.specs.Standing.{rules_in}
use Rattle.grade.specs.Linked.{next_about, Linked}
use Rattle.grade.proofs.Judging.{rules_here, other_rule, rules-next}
use Rattle.grade.specs.declared.rule.Rule.{Rule}
use Rattle.grade.specs.declared.walk.Section.{Section}
use Rattle.grade.specs.declared.finding.Finding.{Finding}

-- ---- the next rule about a name: this one, or the next one of those after it, or none
abbrev segment_of_rule : List Rule → ℕ → ℕ
segment_of_rule rules i = (get_or rules i no_rule).place.segment

module _ (name : ℕ) (rules : List Rule) where
  abbrev next : ℕ → ℕ
  next i = next_about name i (drop i rules)

  next-this : (i : ℕ) → i < length rules → segment_of_rule rules i ≡ name → next i ≡ i
  unfolding next_about
  next-this i h e = rw (drop-cons rules i no_rule h, eq-eqb (segment_of_rule rules i) name e)

  next-later : (i : ℕ) → i < length rules → (segment_of_rule rules i ≡ name → ⊥) → next i ≡ next (i + 1)
  unfolding next_about
  next-later i h n = rw (add-one i, drop-cons rules i no_rule h, ne_eqb (segment_of_rule rules i) name n)

  next-none : (i : ℕ) → length rules ≤ i → next i ≡ i
  unfolding next_about
  next-none i h = rw (drop_of_length-le rules h)

  -- so a law of a number and the next one is shown in these three cases
  module _ (P : ℕ → ℕ → Type 0) (this : (i : ℕ) → i < length rules → segment_of_rule rules i ≡ name → P i i)
      (later : (i j : ℕ) → i < length rules → (segment_of_rule rules i ≡ name → ⊥) → P (i + 1) j → P i j)
      (none : (i : ℕ) → length rules ≤ i → P i i) where
    in_steps : (n i : ℕ) → length rules ≤ i + n → P i (next i)
    in_steps zero i h = subst⁻¹ (P i) (next-none i (omega arith)) (none i (omega arith))
    in_steps (suc n) i h = by (dec_lt i (length rules)) (ℕ_discrete (segment_of_rule rules i) name) (in_steps n (i + 1) (omega arith))
      where
        by : Dec (i < length rules) → Dec (segment_of_rule rules i ≡ name) → P (i + 1) (next (i + 1)) → P i (next i)
        by (yes l) (yes e) ih = subst⁻¹ (P i) (next-this i l e) (this i l e)
        by (yes l) (no e) ih = subst⁻¹ (P i) (next-later i l e) (later i (next (i + 1)) l e ih)
        by (no l) _ ih = subst⁻¹ (P i) (next-none i (omega arith)) (none i (omega arith))

    by_next : (i : ℕ) → P i (next i)
    by_next i = in_steps (length rules) i (omega arith)

  -- the next one, if there is one, is about the name
  pub about-next : (i : ℕ) → next i < length rules → segment_of_rule rules (next i) ≡ name
  about-next = by_next (λ (i j : ℕ). j < length rules → segment_of_rule rules j ≡ name) (λ i h e l. e) (λ i j h n ih. ih) (λ i h l. absurd (omega arith))

  pub next_bounds : (i : ℕ) → (i ≤ next i) × (i ≤ length rules → next i ≤ length rules)
  next_bounds =
      by_next (λ (i j : ℕ). (i ≤ j) × (i ≤ length rules → j ≤ length rules)) (λ i h e. (omega arith, λ l. l)) (λ i j h n ih. (omega (arith, ih.0), λ l. ih.1 (omega arith)))
      (λ i h. (omega arith, λ l. l))

-- ---- the rules before the next one about the segment's name give nothing
pub rules_skip : (d : Delims) (b : List ℕ) (s : Section) (name number : ℕ) (seg : List ℕ) (i : ℕ) →
    rules_here d b s name number seg i ≡ rules_here d b s name number seg (next_about name i (drop i (rules_in b s)))
rules_skip d b s name number seg =
    let from : ℕ → List Finding = rules_here d b s name number seg in
    by_next name (rules_in b s) (λ (i j : ℕ). from i ≡ from j) (λ i h e. refl)
    (λ i j h n ih.
    rules-next d b s name number seg i h
    ∙ ap (λ (l : List Finding). l ++ from (i + 1)) (other_rule d b s name number seg (i + 1) (get_or (rules_in b s) i no_rule) (ne_eqb _ _ n))
    ∙ ih)
    (λ i h. refl)

-- ---- making the links, from the last rule to the first
-- the rules from i on are linked
pub record LinkedFrom (rules : List Rule) (i : ℕ) (links : List ℕ) : Type 0 where
  pub first : (name : ℕ) → name < name_places → get_or links name 0 ≡ next_about name i (drop i rules)
  pub after : (j : ℕ) → i ≤ j → j < length rules → get_or links (name_places + j) 0 ≡ next_about (segment_of_rule rules j) (j + 1) (drop (j + 1) rules)
  pub past : (k : ℕ) → name_places + length rules ≤ k → k < link_limit → get_or links k 0 ≡ length rules

pub linked-none : (rules : List Rule) (n : ℕ) → n ≡ length rules → LinkedFrom rules n (replicate link_limit n)
linked-none rules n e = record {
  first = λ name h. get_or-replicate link_limit name n 0 (omega arith) ∙ sym (next-none name rules n (omega arith));
  after = λ j h l. absurd (omega arith);
  past = λ k h l. get_or-replicate link_limit k n 0 l ∙ e;
}

-- rule i takes the place of the first one of its name, which becomes its next one
module _ (rules : List Rule) (i k name : ℕ) (links : List ℕ) (more : k ≡ i + 1) (inside : i < length rules) (room : name_places + i < length links)
    (named : name ≡ segment_of_rule rules i) (small : name < name_places) (w : LinkedFrom rules k links) where
  abbrev behind : List ℕ
  behind = set links (name_places + i) (get_or links name 0)

  old_first : (n : ℕ) → n < name_places → get_or links n 0 ≡ next_about n (i + 1) (drop (i + 1) rules)
  old_first n h = w.first n h ∙ ap (λ (j : ℕ). next_about n j (drop j rules)) more

  new_first : (n : ℕ) → n < name_places → get_or (set behind name i) n 0 ≡ next_about n i (drop i rules)
  new_first n h = by (ℕ_discrete n name)
    where
      by : Dec (n ≡ name) → get_or (set behind name i) n 0 ≡ next_about n i (drop i rules)
      by (yes e) = rw e (get_or-set_same behind name i 0 (omega (arith, length-set links (name_places + i) (get_or links name 0))) ∙ sym (next-this name rules i inside (sym named)))
      by (no e) =
          get_or-set_other behind name n i 0 e ∙ get_or-set_other links (name_places + i) n (get_or links name 0) 0 (λ q. absurd (omega arith)) ∙ old_first n h
          ∙ sym (next-later n rules i inside (λ q. e (sym q ∙ sym named)))

  new_after : (j : ℕ) → i ≤ j → j < length rules → get_or (set behind name i) (name_places + j) 0 ≡ next_about (segment_of_rule rules j) (j + 1) (drop (j + 1) rules)
  new_after j h l = get_or-set_other behind name (name_places + j) i 0 (λ q. absurd (omega arith)) ∙ by (ℕ_discrete j i)
    where
      by : Dec (j ≡ i) → get_or behind (name_places + j) 0 ≡ next_about (segment_of_rule rules j) (j + 1) (drop (j + 1) rules)
      by (yes e) = rw (e, ← named) (get_or-set_same links (name_places + i) (get_or links name 0) 0 room ∙ old_first name small)
      by (no e) = get_or-set_other links (name_places + i) (name_places + j) (get_or links name 0) 0 (λ q. e (omega arith)) ∙ w.after j (omega (arith, e)) l

  new_past : (k : ℕ) → name_places + length rules ≤ k → k < link_limit → get_or (set behind name i) k 0 ≡ length rules
  new_past k h l =
      get_or-set_other behind name k i 0 (λ q. absurd (omega arith)) ∙ get_or-set_other links (name_places + i) k (get_or links name 0) 0 (λ q. absurd (omega arith)) ∙ w.past k h l

  pub linked_more : LinkedFrom rules i (set behind name i)
  linked_more = record { first = new_first; after = new_after; past = new_past }

-- any two results that the contract of `links_of` allows are equal
pub links_once : (rules : List Rule) {p q : List ℕ} → Linked rules p → Linked rules q → p ≡ q
links_once rules {p} {q} v w = ext_get_or 0 p q (v.sized ∙ sym w.sized) (λ k h. by k (omega (arith, v.sized)) (dec_lt k name_places) (dec_lt k (name_places + length rules)))
  where
    by : (k : ℕ) → k < link_limit → Dec (k < name_places) → Dec (k < name_places + length rules) → get_or p k 0 ≡ get_or q k 0
    by k h (yes l) _ = v.first k l ∙ sym (w.first k l)
    by k h (no l) (yes m) =
        let i = k - name_places in
        let e : name_places + i ≡ k = omega (arith, l) in
        rw (← e) (v.after i (omega (arith, l)) ∙ sym (w.after i (omega (arith, l))))
    by k h (no l) (no m) = v.past k (omega (arith, m)) h ∙ sym (w.past k (omega (arith, m)) h)
