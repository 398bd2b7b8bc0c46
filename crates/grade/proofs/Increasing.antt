-- Lists in strict order: what they are made of, and that their members determine them. Knows nothing of findings. Assumes nothing.
use Prim.Native.Nat.{ℕ, zero, suc, ◌+◌, ◌≤◌, ◌<◌}
use mathlib.Core.Path.{◌≡◌, refl, sym, ap, ap₂, subst, ◌∙◌}
use mathlib.Core.Bool.{Bool, true, false, cond}
use mathlib.Core.Logic.{inl, inr, ⊎_elim, ◌↔◌}
use mathlib.Core.List.Memᴰ
use mathlib.Core.List.{List, [], ◌∷◌, ◌++◌, map, Memᴰ}
use native.Mathlib.Omega.{arith}
use native.Mathlib.Nat.{eq-or-lt_of_le}
use lib.Dec.{T}
use Rattle.grade.specs.Strict.{Increasing, Lex, keep, count_from, pairs_from}

-- ---- the members determine a list in strict order
Asymmetric : {A : Type 0} → (A → A → Type 0) → Type 0
Asymmetric {A} R = (x y : A) → R x y → R y x → ⊥

abbrev pub Same : {A : Type 0} → List A → List A → Type 0
Same {A} l k = (x : A) → Memᴰ x l ↔ Memᴰ x k

module _ {A : Type 0} (R : A → A → Type 0) (asym : (x y : A) → R x y → R y x → ⊥) where
  -- the heads are the same: each is in the other list, and not after itself
  heads : (x y : A) (l k : List A) → Increasing R (x ∷ l) → Increasing R (y ∷ k) → Same (x ∷ l) (y ∷ k) → x ≡ y
  heads x y l k hl hk same = ⊎_elim (λ e. e) (λ m. ⊎_elim (λ e. sym e) (λ m'. absurd (asym x y (hl.0 y m') (hk.0 x m))) (Memᴰ.cases_cons ((same y).1 (Memᴰ.head refl)))) (Memᴰ.cases_cons ((same x).0 (Memᴰ.head refl)))

  -- what is in one tail is in the other
  in_tail : (x y : A) (l k : List A) → x ≡ y → Increasing R (x ∷ l) → ((z : A) → Memᴰ z (x ∷ l) → Memᴰ z (y ∷ k)) → (z : A) → Memᴰ z l → Memᴰ z k
  in_tail x y l k e hl sub z m = ⊎_elim (λ (p : z ≡ y). let h : R x x = subst (λ (w : A). R x w) (p ∙ sym e) (hl.0 z m) in absurd (asym x x h h)) (λ t. t) (Memᴰ.cases_cons (sub z (Memᴰ.tail m)))

  pub by_members : (l k : List A) → Increasing R l → Increasing R k → Same l k → l ≡ k
  by_members [] [] hl hk same = refl
  by_members [] (y ∷ k) hl hk same = absurd (Memᴰ.not-nil ((same y).1 (Memᴰ.head refl)))
  by_members (x ∷ l) [] hl hk same = absurd (Memᴰ.not-nil ((same x).0 (Memᴰ.head refl)))
  by_members (x ∷ l) (y ∷ k) hl hk same =
      let e : x ≡ y = heads x y l k hl hk same in
      ap₂ ◌∷◌ e (by_members l k hl.1 hk.1 (λ z. (in_tail x y l k e hl (λ w. (same w).0) z, in_tail y x k l (sym e) hk (λ w. (same w).1) z)))

-- ---- lexicographic order
pub lex_asym : {A : Type 0} (R : A → A → Type 0) → ((x y : A) → R x y → R y x → ⊥) → (x y : ℕ × A) → Lex R x y → Lex R y x → ⊥
lex_asym R asym x y (inl p) (inl q) = omega arith
lex_asym R asym x y (inl p) (inr q) = omega arith
lex_asym R asym x y (inr p) (inl q) = omega arith
lex_asym R asym x y (inr p) (inr q) = asym x.1 y.1 p.1 q.1

pub lt_asym : (m n : ℕ) → m < n → n < m → ⊥
lt_asym m n p q = omega arith

-- ---- what a test keeps
module _ {A : Type 0} (test : A → Bool) where
  keep_step : (b : Bool) (x z : A) (l : List A) → test x ≡ b → (Memᴰ z (keep test l) ↔ (Memᴰ z l × T (test z))) → Memᴰ z (cond b (x ∷ keep test l) (keep test l)) ↔ (Memᴰ z (x ∷ l) × T (test z))
  keep_step true x z l e ih = (
    λ m. ⊎_elim (λ (p : z ≡ x). (Memᴰ.head p, subst T (sym (ap test p ∙ e)) tt)) (λ m'. (Memᴰ.tail (ih.0 m').0, (ih.0 m').1)) (Memᴰ.cases_cons m),
    λ h. ⊎_elim (λ p. Memᴰ.head p) (λ m'. Memᴰ.tail (ih.1 (m', h.1))) (Memᴰ.cases_cons h.0),
  )
  keep_step false x z l e ih = (
    λ m. (Memᴰ.tail (ih.0 m).0, (ih.0 m).1),
    λ h. ⊎_elim (λ (p : z ≡ x). absurd (subst T (ap test p ∙ e) h.1)) (λ m'. ih.1 (m', h.1)) (Memᴰ.cases_cons h.0),
  )

  pub mem_keep : (z : A) (l : List A) → Memᴰ z (keep test l) ↔ (Memᴰ z l × T (test z))
  unfolding keep
  mem_keep z [] = (λ m. absurd (Memᴰ.not-nil m), λ h. absurd (Memᴰ.not-nil h.0))
  mem_keep z (x ∷ l) = keep_step (test x) x z l refl (mem_keep z l)

  pub increasing_keep : (R : A → A → Type 0) (l : List A) → Increasing R l → Increasing R (keep test l)
  unfolding keep
  increasing_keep R [] h = tt
  increasing_keep R (x ∷ l) h = step (test x) (increasing_keep R l h.1)
    where
      step : (b : Bool) → Increasing R (keep test l) → Increasing R (cond b (x ∷ keep test l) (keep test l))
      step true ih = (λ y m. h.0 y ((mem_keep y l).0 m).0, ih)
      step false ih = ih

-- ---- numbers in a row
pub mem_count : (z n k : ℕ) → Memᴰ z (count_from n k) ↔ ((n ≤ z) × (z < n + k))
unfolding count_from
mem_count z n zero = (λ m. absurd (Memᴰ.not-nil m), λ h. absurd (omega arith))
mem_count z n (suc k) = (
  λ m. ⊎_elim (λ e. omega arith) (λ m'. let h = (mem_count z (suc n) k).0 m' in omega arith) (Memᴰ.cases_cons m),
  λ h. ⊎_elim (λ e. Memᴰ.head (sym e)) (λ p. Memᴰ.tail ((mem_count z (suc n) k).1 (omega arith))) (eq-or-lt_of_le h.0),
)

pub increasing_count : (n k : ℕ) → Increasing ◌<◌ (count_from n k)
unfolding count_from
increasing_count n zero = tt
increasing_count n (suc k) = (λ y m. ((mem_count y (suc n) k).0 m).0, increasing_count (suc n) k)

-- ---- numbers, each paired with the elements of its list
module _ {A : Type 0} where
  mem_paired : (z : ℕ × A) (n : ℕ) (l : List A) → Memᴰ z (map (λ (a : A). (n, a)) l) ↔ ((z.0 ≡ n) × Memᴰ z.1 l)
  mem_paired z n [] = (λ m. absurd (Memᴰ.not-nil m), λ h. absurd (Memᴰ.not-nil h.1))
  mem_paired z n (x ∷ l) = (
    λ m. ⊎_elim (λ e. (ap (λ (w : ℕ × A). w.0) e, Memᴰ.head (ap (λ (w : ℕ × A). w.1) e))) (λ m'. let h = (mem_paired z n l).0 m' in (h.0, Memᴰ.tail h.1)) (Memᴰ.cases_cons m),
    λ h. ⊎_elim (λ (e : z.1 ≡ x). Memᴰ.head (λ i. (h.0 i, e i))) (λ m'. Memᴰ.tail ((mem_paired z n l).1 (h.0, m'))) (Memᴰ.cases_cons h.1),
  )

  pub mem_pairs : (z : ℕ × A) (n k : ℕ) (f : ℕ → List A) → Memᴰ z (pairs_from n k f) ↔ ((n ≤ z.0) × (z.0 < n + k) × Memᴰ z.1 (f z.0))
  unfolding pairs_from
  mem_pairs z n zero f = (λ m. absurd (Memᴰ.not-nil m), λ h. absurd (omega arith))
  mem_pairs z n (suc k) f = (
    λ m. ⊎_elim
        (λ m'. let h = (mem_paired z n (f n)).0 m' in (omega arith, omega arith, subst (λ (w : ℕ). Memᴰ z.1 (f w)) (sym h.0) h.1))
        (λ m'. let h = (mem_pairs z (suc n) k f).0 m' in (omega arith, omega arith, h.2))
        (Memᴰ.append_cases (map (λ (a : A). (n, a)) (f n)) m),
    λ h. ⊎_elim
        (λ e. Memᴰ.append_left _ ((mem_paired z n (f n)).1 (sym e, subst (λ (w : ℕ). Memᴰ z.1 (f w)) (sym e) h.2)))
        (λ p. Memᴰ.append_right (map (λ (a : A). (n, a)) (f n)) ((mem_pairs z (suc n) k f).1 (p, omega arith, h.2)))
        (eq-or-lt_of_le h.0),
  )

  module _ (R : A → A → Type 0) where
    increasing_append : (l k : List (ℕ × A)) → Increasing (Lex R) l → Increasing (Lex R) k → ((x y : ℕ × A) → Memᴰ x l → Memᴰ y k → x.0 < y.0) → Increasing (Lex R) (l ++ k)
    increasing_append [] k hl hk across = hk
    increasing_append (x ∷ l) k hl hk across = (
      λ y m. ⊎_elim (λ m'. hl.0 y m') (λ m'. inl (across x y (Memᴰ.head refl) m')) (Memᴰ.append_cases l m),
      increasing_append l k hl.1 hk (λ x' y m m'. across x' y (Memᴰ.tail m) m'),
    )

    increasing_paired : (n : ℕ) (l : List A) → Increasing R l → Increasing (Lex R) (map (λ (a : A). (n, a)) l)
    increasing_paired n [] h = tt
    increasing_paired n (x ∷ l) h = (λ y m. let q = (mem_paired y n l).0 m in inr (sym q.0, h.0 y.1 q.1), increasing_paired n l h.1)

    pub increasing_pairs : (n k : ℕ) (f : ℕ → List A) → ((m : ℕ) → Increasing R (f m)) → Increasing (Lex R) (pairs_from n k f)
    unfolding pairs_from
    increasing_pairs n zero f h = tt
    increasing_pairs n (suc k) f h =
        increasing_append (map (λ (a : A). (n, a)) (f n)) (pairs_from (suc n) k f) (increasing_paired n (f n) (h n)) (increasing_pairs (suc n) k f h)
        (λ x y m m'. let p = (mem_paired x n (f n)).0 m in let q = (mem_pairs y (suc n) k f).0 m' in omega arith)
