-- Laws of noted sets, commons and sections: noting them one after the other, and looking among them first. Assumes nothing.
use mathlib.Core.Path.{◌≡◌, refl, sym, ap, subst, ◌∙◌}
use mathlib.Core.Bool.{Bool, true, false, cond, ◌&&◌, true≢false}
use mathlib.Core.List.{List, [], ◌∷◌, ◌++◌}
use Prim.Native.Nat.{ℕ, zero, suc, ◌+◌, ◌≤◌, ◌<◌}
use native.Mathlib.Omega.{arith}
use native.Mathlib.Numerals.{add-one}
use lib.ListN.{length, get_or, take, drop, set, length-set, drop_of_length-le}
use lib.Seq.{take-suc-set}
use borrow.Author.Tests.{ne_eqb}
use Rattle.hl7.specs.Bytes.{within, same}
use Rattle.hl7.proofs.Comparing.{rest_at}
use Rattle.booktext.specs.Lines.{Statement, verb, word, a_set, a_section, statements}
use Rattle.booktext.specs.Meaning.{is_of, from}
use Rattle.booktext.specs.Standing.{statement_at, next_line, left, Finds, from_noted, Heads}
use Rattle.booktext.proofs.Stating.{left-start, left_at, onward, onward-some, found-onward, from_is}

-- ---- one of them
module _ (t : List ℕ) (at : ℕ) {v : ℕ} {b : Bool} (e : v ≡ verb (statement_at t at 0)) (f : b ≡ within a_set a_section v) (heads : List ℕ) (count : ℕ) where
  abbrev is_head_lem : Bool
  is_head_lem = within a_set a_section (verb (statement_at t at 0))

  pub head-told : {x : Bool} → b ≡ x → (cond x (count + 1) count ≡ cond is_head_lem (count + 1) count) × (cond x (set heads count at) heads ≡ cond is_head_lem (set heads count at) heads)
  head-told g =
      let known = sym g ∙ f ∙ ap (within a_set a_section) e in
      (ap (λ (x : Bool). cond x (count + 1) count) known, ap (λ (x : Bool). cond x (set heads count at) heads) known)

-- ---- noting them
noted_more : (t : List ℕ) (v : ℕ) (name heads : List ℕ) (at : ℕ) (later : List Statement) → from_noted t v name (heads ++ (at ∷ [])) later ≡ from_noted t v name heads (cond (is_of v name (statement_at t at 0)) (statement_at t at 0 ∷ left t (next_line t at)) later)
unfolding from_noted
noted_more t v name [] at later = refl
noted_more t v name (x ∷ heads) at later = ap (cond (is_of v name (statement_at t x 0)) (statement_at t x 0 ∷ left t (next_line t x))) (noted_more t v name heads at later)

inside_more : (l : List ℕ) (at n : ℕ) → ((i : ℕ) → i < length l → get_or l i 0 ≤ n) → at ≤ n → (i : ℕ) → i < length (l ++ (at ∷ [])) → get_or (l ++ (at ∷ [])) i 0 ≤ n
inside_more [] at n f h zero k = h
inside_more [] at n f h (suc i) k = absurd (omega (arith, k))
inside_more (x ∷ l) at n f h zero k = f zero (omega arith)
inside_more (x ∷ l) at n f h (suc i) k = inside_more l at n (λ j q. f (suc j) (omega (arith, q))) h i (omega (arith, k))

-- in the midst of noting, before the statement at a position
pub record Heading (t before heads : List ℕ) (count at : ℕ) : Type 0 where
  pub same : length heads ≡ length before
  pub room : count ≤ length heads
  pub here : left t at ≡ onward t (left t) at
  pub noted : Heads t (take count heads) at

pub heading-start : (t before : List ℕ) {at : ℕ} → Finds t (left t 0) (left t (next_line t at)) at → Heading t before before 0 at
unfolding from_noted
heading-start t before f =
    let here = left_at t 0 f in
    record {
      same = refl;
      room = omega arith;
      here = here;
      noted = record {
        whole = λ v name k. ap (from v name) (here ∙ sym (found-onward t (left t) f) ∙ left-start t);
        inside = λ i h. absurd (omega (arith, h));
      };
    }

module _ (t before heads : List ℕ) (count at : ℕ) (w : Heading t before heads count at) (h : at ≤ length t) (few : count < length heads) {p r : ℕ} (g : p ≡ next_line t at) (d : Finds t (left t p) (left t (next_line t r)) r) where
  abbrev s : Statement
  s = statement_at t at 0

  after_is : left t (next_line t at) ≡ left t r
  after_is = ap (left t) (sym g) ∙ found-onward t (left t) d ∙ sym (left_at t p d)

  looked : (v : ℕ) (name : List ℕ) {b : Bool} → is_of v name s ≡ b → from v name (left t at) ≡ cond b (s ∷ left t (next_line t at)) (from v name (left t r))
  looked v name {b} e = ap (from v name) (w.here ∙ onward-some t (left t) h) ∙ from_is v name s (left t (next_line t at)) e ∙ ap (λ (ss : List Statement). cond b (s ∷ left t (next_line t at)) (from v name ss)) after_is

  heading-head : Heading t before (set heads count at) (count + 1) r
  heading-head =
      let more : take (count + 1) (set heads count at) ≡ take count heads ++ (at ∷ []) = ap (λ (n : ℕ). take n (set heads count at)) (add-one count) ∙ take-suc-set heads count at few in
      record {
        same = length-set heads count at ∙ w.same;
        room = omega (arith, few, length-set heads count at);
        here = left_at t p d;
        noted = record {
          whole = λ v name k.
              ap (λ (l : List ℕ). from_noted t v name l (from v name (left t r))) more
              ∙ noted_more t v name (take count heads) at (from v name (left t r))
              ∙ ap (from_noted t v name (take count heads)) (sym (looked v name refl))
              ∙ w.noted.whole v name k;
          inside = subst (λ (l : List ℕ). (i : ℕ) → i < length l → get_or l i 0 ≤ length t) (sym more) (inside_more (take count heads) at (length t) w.noted.inside h);
        };
      }

  heading_other : within a_set a_section (verb s) ≡ false → Heading t before heads count r
  heading_other e =
      record {
        same = w.same;
        room = w.room;
        here = left_at t p d;
        noted = record {
          whole = λ v name k. ap (from_noted t v name (take count heads)) (sym (looked v name (no_name v name k))) ∙ w.noted.whole v name k;
          inside = w.noted.inside;
        };
      }
    where
      no_name : (v : ℕ) (name : List ℕ) → within a_set a_section v ≡ true → is_of v name s ≡ false
      no_name v name k =
          ap (λ (b : Bool). b && same (word s 1) name)
          (ne_eqb (verb s) v (λ q. true≢false (sym k ∙ ap (within a_set a_section) (sym q) ∙ e)))

  pub heading_on : {n : ℕ} {after : List ℕ} → n ≡ cond (within a_set a_section (verb s)) (count + 1) count → after ≡ cond (within a_set a_section (verb s)) (set heads count at) heads → Heading t before after n r
  heading_on {n} {after} e f =
      subst (λ (l : List ℕ). Heading t before l n r) (sym f)
      (subst (λ (k : ℕ). Heading t before (cond (within a_set a_section (verb s)) (set heads count at) heads) k r) (sym e) (by_case (within a_set a_section (verb s)) refl))
    where
      by_case : (b : Bool) → within a_set a_section (verb s) ≡ b → Heading t before (cond b (set heads count at) heads) (cond b (count + 1) count) r
      by_case true q = heading-head
      by_case false q = heading_other q

-- ---- looking among them first
module _ (t heads : List ℕ) (rest v : ℕ) (name : List ℕ) (i : ℕ) (passed : from_noted t v name (drop i heads) (from v name (left t rest)) ≡ from v name (statements t)) where
  module _ (h : i < length heads) {b : Bool} (e : b ≡ is_of v name (statement_at t (get_or heads i 0) 0)) where
    abbrev head_at : ℕ
    head_at = get_or heads i 0

    head_step : from_noted t v name (drop i heads) (from v name (left t rest)) ≡ cond b (statement_at t head_at 0 ∷ left t (next_line t head_at)) (from_noted t v name (drop (i + 1) heads) (from v name (left t rest)))
    unfolding from_noted
    head_step =
        ap (λ (l : List ℕ). from_noted t v name l (from v name (left t rest))) (rest_at heads i h)
        ∙ ap (λ (x : Bool). cond x (statement_at t head_at 0 ∷ left t (next_line t head_at)) (from_noted t v name (drop (i + 1) heads) (from v name (left t rest)))) (sym e)

    pub head-here : Heads t heads rest → b ≡ true → Finds t (from v name (statements t)) (left t (next_line t head_at)) head_at
    head-here d f =
        record {
          some = λ k. sym passed ∙ head_step ∙ ap (λ (x : Bool). cond x (statement_at t head_at 0 ∷ left t (next_line t head_at)) (from_noted t v name (drop (i + 1) heads) (from v name (left t rest)))) f;
          none = λ k. absurd (omega (arith, k, d.inside i h));
        }

    pub head_on : b ≡ false → from_noted t v name (drop (i + 1) heads) (from v name (left t rest)) ≡ from v name (statements t)
    head_on f = sym (head_step ∙ ap (λ (x : Bool). cond x (statement_at t head_at 0 ∷ left t (next_line t head_at)) (from_noted t v name (drop (i + 1) heads) (from v name (left t rest)))) f) ∙ passed

  -- none of them
  pub head-over : length heads ≤ i → {r : ℕ} → Finds t (from v name (left t rest)) (left t (next_line t r)) r → Finds t (from v name (statements t)) (left t (next_line t r)) r
  unfolding from_noted
  head-over h {r} f =
      let all : from v name (left t rest) ≡ from v name (statements t) = sym (ap (λ (l : List ℕ). from_noted t v name l (from v name (left t rest))) (drop_of_length-le heads h)) ∙ passed in
      record { some = λ k. sym all ∙ f.some k; none = λ k. sym all ∙ f.none k }
