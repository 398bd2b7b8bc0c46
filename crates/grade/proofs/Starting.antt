-- What `any` and `find` over the positions of sections tell, and what they may ask at each. Assumes nothing.
use Prim.Native.Nat.{ℕ, suc, ◌<◌}
use mathlib.Core.Path.{◌≡◌, refl, subst, ap, ◌∙◌}
use mathlib.Core.Bool.{Bool, true, false, cond, ◌||◌}
use mathlib.Core.List.{List, [], ◌∷◌, map}
use native.Mathlib.Omega.{arith}
use lib.ListN.{length, get_or}
use denote.Ref.{Bor}
use Rattle.std.specs.Prelude.{Some, None}
use Rattle.std.specs.List.{FoldsTo, list_any, find}
use Rattle.std.specs.Iterator.{Yields, CallableAtEachTurn}
use Rattle.std.specs.Slice.Iter.{iter_rest}
use Rattle.std.proofs.Common.{Iter}
use Rattle.std.proofs.iter.Yields.{fronts}
use Rattle.hl7.specs.Bytes.{all, same, among}
use Rattle.hl7.proofs.Comparing.{and_both}
use Rattle.grade.specs.Standing.{text_at, stands_at, site_at, site_of}

-- what holds of each item may be asked for at each
pub serves_from_slice : {P : Type 0} {R : P → Bor ℕ → P → Type 0} {Q : P → Bor ℕ → Type 0} {s : Iter ℕ} {p : P} (T : ℕ → Type 0) →
    ((x : Bor ℕ) (q : P) → R p x q → q ≡ p) → ((x : Bor ℕ) → T x.now → Q p x) → ((k : ℕ) → k < length (iter_rest s) → T (get_or (iter_rest s) k 0)) →
    CallableAtEachTurn fronts R Q s p
serves_from_slice {P} {R} {Q} {s} {p} T stays asks holds = record { at = λ xs t q x u y f e. go xs s t q x u holds y f e }
  where
    go : (xs : List (Bor ℕ)) (s t : Iter ℕ) (q : P) (x : Bor ℕ) (u : Iter ℕ) → ((k : ℕ) → k < length (iter_rest s) → T (get_or (iter_rest s) k 0)) →
        Yields fronts s xs t → FoldsTo R p xs q → fronts t (Some x) u → Q q x
    go [] s t q x u h y f e =
        let here : iter_rest s ≡ x.now ∷ iter_rest u = ap iter_rest y ∙ e in
        let long : 0 < length (iter_rest s) = omega (arith, ap length here) in
        subst (λ (v : P). Q v x) f (asks x (subst (λ (v : List ℕ). T (get_or v 0 0)) here (h 0 long)))
    go (z ∷ xs) s t q x u h y f e =
        let later = λ (k : ℕ) (l : k < length (iter_rest y.0)).
        let long : suc k < length (iter_rest s) = omega (arith, ap length y.1) in
        subst (λ (v : List ℕ). T (get_or v (suc k) 0)) y.1 (h (suc k) long) in
        go xs y.0 t q x u later y.2 (subst (λ (v : P). FoldsTo R v xs q) (stays z f.0 f.1) f.2) e

-- a text is among those that stand at the positions if one of them is the same
pub any_among : (f : ℕ → List ℕ) (v : List ℕ) (l : List ℕ) → list_any (λ at. same v (f at)) l ≡ among v (map f l)
unfolding among
any_among f v [] = refl
any_among f v (x ∷ l) = ap (λ (t : Bool). same v (f x) || t) (any_among f v l)

-- the first position at which the key stands is that of its section
module _ (b key : List ℕ) where
  pub record Sought (l : List ℕ) (start : ℕ) : Type 0 where
    pub stands : stands_at b start ≡ true
    pub there : among key (map (text_at b) l) ≡ true
    pub site : site_of b key l ≡ site_at b start

  pub sought : (l : List ℕ) (start : ℕ) → all (stands_at b) l ≡ true → find (λ at. same key (text_at b at)) l ≡ Some start → Sought l start
  unfolding among all site_of
  sought [] start s e = let z : ◌≡◌ {A = ℕ} 0 1 = cc in absurd (omega arith)
  sought (x ∷ l) start s e = let both = and_both (stands_at b x) (all (stands_at b) l) s in by both.0 (sought l start both.1) (same key (text_at b x)) refl e
    where
      by : stands_at b x ≡ true → (find (λ at. same key (text_at b at)) l ≡ Some start → Sought l start) →
          (t : Bool) → same key (text_at b x) ≡ t → cond t (Some x) (find (λ at. same key (text_at b at)) l) ≡ Some start → Sought (x ∷ l) start
      by here ih true t e =
          let is : x ≡ start = cc in
          record { stands = subst (λ (v : ℕ). stands_at b v ≡ true) is here; there = rw t; site = rw t (ap (site_at b) is) }
      by here ih false t e = let w = ih e in record { stands = w.stands; there = rw t w.there; site = rw t w.site }

  pub unsought : (l : List ℕ) → find (λ at. same key (text_at b at)) l ≡ None → among key (map (text_at b) l) ≡ false
  unfolding among
  unsought [] e = refl
  unsought (x ∷ l) e = by (unsought l) (same key (text_at b x)) refl e
    where
      by : (find (λ at. same key (text_at b at)) l ≡ None → among key (map (text_at b) l) ≡ false) → (t : Bool) → same key (text_at b x) ≡ t → cond t (Some x) (find (λ at. same key (text_at b at)) l) ≡ None → (same key (text_at b x) || among key (map (text_at b) l)) ≡ false
      by ih true t e = let z : ◌≡◌ {A = ℕ} 0 1 = cc in absurd (omega arith)
      by ih false t e = rw t (ih e)
