-- What a fold over a range keeps, and where count readings in a row end, as `try_fold` walks them. Assumes nothing.
use mathlib.Core.Path.{◌≡◌, sym, subst, ap, ◌∙◌}
use mathlib.Core.List.{List, [], ◌∷◌}
use Prim.Native.Nat.{ℕ, ◌+◌, ◌-◌, ◌<◌}
use native.Mathlib.Omega.{arith}
use denote.Param.Members.{Mut}
use Rattle.std.specs.Prelude.{Option, Some, None}
use Rattle.std.specs.Fn.{Called}
use Rattle.std.specs.List.{FoldsTo}
use Rattle.std.specs.Option.{MatchOption}
use Rattle.std.specs.Iterator.{Yields, TryFoldTurn, TryFoldsItems, CallableAtEachTurn}
use Rattle.std.specs.ControlFlow.{continue_value}
use Rattle.std.specs.Range.{range_steps}
use Rattle.std.specs.declared.ops.ControlFlow.{ControlFlow}
use Rattle.std.specs.declared.ops.Range.{Range}
use Rattle.grade.specs.Reader.{Reader, times}
use Rattle.grade.specs.Standing.{end_of}
use Rattle.grade.proofs.Readings.{times_none, times-next, times-fault}

-- a range counts up by one
abbrev pub Steps : Range ℕ → Option ℕ → Range ℕ → Type 0
Steps = range_steps (λ (x y : ℕ). y - x) (λ (x y : ℕ). y ≡ x + 1)

-- how many numbers a range has left
abbrev pub left : Range ℕ → ℕ
left s = s.end - s.start

-- the value f, which its calls leave as it is, takes a position along, and P holds of each with as many numbers as are left there
module _ {F : Type 0} (R : F × ℕ → ℕ → F × ℕ → Type 0) (f : F) (P : ℕ → ℕ → Type 0)
    (step : (n at x : ℕ) (q : F × ℕ) → 0 < n → P n at → R (f, at) x q → (q.0 ≡ f) × P (n - 1) q.1) where
  pub kept : (xs : List ℕ) (at : ℕ) (q : F × ℕ) (s t : Range ℕ) → P (left s) at → Yields Steps s xs t → FoldsTo R (f, at) xs q → (q.0 ≡ f) × P (left t) q.1
  kept [] at q s t p y c = (
    sym (ap (λ (v : F × ℕ). v.0) c),
    subst (λ (v : ℕ). P (left t) v) (ap (λ (v : F × ℕ). v.1) c) (subst (λ (v : Range ℕ). P (left v) at) y p),
  )
  kept (x ∷ xs) at q s t p y c =
      let now = step (left s) at x c.0 (omega (arith, y.1.1.0)) p c.1 in
      let fewer : left s - 1 ≡ left y.0 = omega (arith, y.1.0, y.1.1.0, y.1.1.2) in
      let rest = subst (λ (v : F). FoldsTo R (v, c.0.1) xs q) now.0 c.2 in
      kept xs c.0.1 q y.0 t (subst (λ (v : ℕ). P v c.0.1) fewer now.1) y.2 rest

  pub serves_at : (Q : F × ℕ → ℕ → Type 0) → ((n at x : ℕ) → 0 < n → P n at → Q (f, at) x) → (at : ℕ) (s : Range ℕ) → P (left s) at → CallableAtEachTurn Steps R Q s (f, at)
  serves_at Q asks at s p = record {
    at = λ xs t q x u y c e.
        let w = kept xs at q s t p y c in
        subst (λ (v : F). Q (v, q.1) x) (sym w.0) (asks (left t) q.1 x (omega (arith, e.1.0)) w.1);
  }

-- each step tells where a reading ends
module _ {F A : Type 0} (E : Type 0) {g : Mut F (ℕ × (ℕ × Unit {0})) (Option ℕ)} (f : F) (p : Reader A) (b : List ℕ)
    (step : (from x : ℕ) (v : Option ℕ) (f' : F) → Called g f (from, (x, tt)) v f' → (f' ≡ f) × (v ≡ end_of (p b from))) (r : Option ℕ) where
  abbrev pub Goes : Option ℕ → ControlFlow E ℕ → Type 0
  Goes v c = v ≡ continue_value c

  module _ (n at : ℕ) where
    abbrev Alike : ℕ → ℕ → Type 0
    Alike k from = end_of (times k p b from) ≡ end_of (times n p b at)

    one : (k from x : ℕ) (q : F × ℕ) → 0 < k → Alike k from → TryFoldTurn g Goes (f, from) x q → (q.0 ≡ f) × Alike (k - 1) q.1
    one k from x q h e c =
        let now = step from x c.0 q.0 c.1 in
        (now.0, sym (times-next p b k from q.1 h (sym now.1 ∙ c.2)) ∙ e)

    -- after the whole range, or at a step that tells no end
    last : (o : Option ℕ) (t u : Range ℕ) (h : F) (a : ℕ) → h ≡ f → Alike (left t) a → Steps t o u
        → MatchOption o (r ≡ Some a) (λ x. (v : Option ℕ) × (k : F) × (e : E) × Called g h (a, (x, tt)) v k × (v ≡ None) × (r ≡ None)) → r ≡ end_of (times n p b at)
    last None t u h a s w e d = d ∙ sym (times_none p b (left t) a (omega (arith, e.1.0))) ∙ w
    last (Some x) t u h a s w e d =
        let now = step a x d.0 d.1 (subst (λ (v : F). Called g v (a, (x, tt)) d.0 d.1) s d.3) in
        d.5 ∙ sym (times-fault p b (left t) a (omega (arith, e.1.0)) (sym now.1 ∙ d.4)) ∙ w

    -- what `try_fold` says that it ran, over a range from 0 on
    pub walked : (u : Range ℕ) → TryFoldsItems Steps g Goes (λ (_ : E) (v : Option ℕ). v ≡ None) (record { start = 0; end = n }) f at r u → r ≡ end_of (times n p b at)
    walked u d =
        let begun : Alike (n - 0) at = ap (λ (k : ℕ). end_of (times k p b at)) {x = n - 0} {y = n} (omega arith) in
        let w = kept (TryFoldTurn g Goes) f Alike one d.0 at (d.2, d.3) _ d.4.0 begun d.4.1 d.5 in
        last d.1 d.4.0 u d.2 d.3 w.0 w.1 d.4.2 d.6
