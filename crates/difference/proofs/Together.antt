-- Which rules belong together, and which codes are gone: the definitions compute it one way, and here is the other. Assumes nothing.
use mathlib.Core.Path.{◌≡◌, refl, sym, ap}
use mathlib.Core.Bool.{Bool, true, false, cond, not, ◌&&◌, true≢false}
use mathlib.Core.List.{List, [], ◌∷◌}
use mathlib.Core.Logic.{◌↔◌, ⊎_elim}
use Prim.Native.Nat.{ℕ, zero, suc, ◌+◌, ◌-◌, ◌≤◌, ◌<◌}
use native.Mathlib.Omega.{arith}
use lib.Dec.{eqb}
use lib.ListN.{length, get_or, take}
use borrow.Author.Tests.{eqb-true, eqb-false, eq-eqb, ne_eqb}
use Rattle.hl7.specs.Bytes.{among}
use Rattle.hl7.specs.Spans.{occurrences}
use Rattle.grade.specs.Strict.{keep}
use Rattle.difference.specs.Difference.{numbered, counterpart, all_among, gone}
use Rattle.difference.proofs.Silent.{numbered_from_lem, numbered_is}

-- ---- counterparts
-- the one that was found has so many before it
numbered-before : (n spot k : ℕ) (l : List ℕ) (j : ℕ) → 1 ≤ n → numbered n spot k l ≡ n + j → occurrences spot (take j l) ≡ k
unfolding numbered occurrences
numbered-before n spot k [] j some e = absurd (omega arith)
numbered-before n spot k (x ∷ l) j some e = by (eqb x spot) refl (eqb k 0) refl j e (λ (m i : ℕ) f. numbered-before (suc n) spot m l i (omega arith) f)
  where
    by : (here : Bool) → eqb x spot ≡ here → (first : Bool) → eqb k 0 ≡ first → (j : ℕ) → cond (here && first) n (numbered (suc n) spot (k - cond here 1 0) l) ≡ n + j
        → ((m i : ℕ) → numbered (suc n) spot m l ≡ suc n + i → occurrences spot (take i l) ≡ m) → occurrences spot (take j (x ∷ l)) ≡ k
    by true h true f zero e ih = sym (eqb-true k 0 f)
    by true h true f (suc j) e ih = absurd (omega arith)
    by true h false f zero e ih = absurd (⊎_elim (λ z. omega (arith, z)) (λ g. omega (arith, g)) (numbered_from_lem (suc n) spot (k - 1) l))
    by true h false f (suc j) e ih = rw h (omega (arith, ih (k - 1) j (omega (arith, e)), eqb-false k 0 f))
    by false h first f zero e ih = absurd (⊎_elim (λ z. omega (arith, z)) (λ g. omega (arith, g)) (numbered_from_lem (suc n) spot (k - 0) l))
    by false h first f (suc j) e ih = rw h (omega (arith, ih (k - 0) j (omega (arith, e))))

-- and the one that has so many before it is found
numbered-there : (n : ℕ) (l : List ℕ) (j : ℕ) → j < length l → numbered n (get_or l j 0) (occurrences (get_or l j 0) (take j l)) l ≡ n + j
unfolding numbered occurrences
numbered-there n [] j h = absurd (omega arith)
numbered-there n (x ∷ l) zero h = rw (eq-eqb x x refl) (omega arith)
numbered-there n (x ∷ l) (suc j) h = by (eqb x (get_or l j 0)) (numbered-there (suc n) l j (omega arith))
  where
    spot : ℕ
    spot = get_or l j 0

    rest : ℕ
    rest = occurrences spot (take j l)

    by : (t : Bool) → numbered (suc n) spot rest l ≡ suc n + j → cond (t && eqb (cond t 1 0 + rest) 0) n (numbered (suc n) spot (cond t 1 0 + rest - cond t 1 0) l) ≡ n + suc j
    by true ih =
        let later : 1 + rest ≡ 0 → ⊥ = λ z. omega (arith, z) in
        let left : 1 + rest - 1 ≡ rest = omega arith in
        rw (ne_eqb (1 + rest) 0 later, left) (omega (arith, ih))
    by false ih = let left : 0 + rest - 0 ≡ rest = omega arith in rw left (omega (arith, ih))

module _ (own others : List ℕ) where
  -- a counterpart's counterpart is the rule itself
  pub counterpart_back : (i j : ℕ) → i < length own → counterpart own others i ≡ suc j → (j < length others) × (counterpart others own j ≡ suc i)
  unfolding counterpart
  counterpart_back i j h e =
      let spot = get_or own i 0 in
      let before = occurrences spot (take i own) in
      let found : numbered 1 spot before others ≡ 1 + j = omega (arith, e) in
      let is = numbered_is 1 spot before others j (omega arith) found in
      (is.0, rw (is.1, numbered-before 1 spot before others j (omega arith) found) (omega (arith, numbered-there 1 own i h)))

-- a rule has no counterpart among others where it is the counterpart of none of them
pub counterpart-of-none : (own others : List ℕ) (j : ℕ) → j < length others → (counterpart others own j ≡ 0) ↔ ((i : ℕ) → i < length own → counterpart own others i ≡ suc j → ⊥)
counterpart-of-none own others j h = (λ z i k e. omega (arith, z, (counterpart_back own others i j k e).1), by (counterpart others own j) refl)
  where
    by : (m : ℕ) → counterpart others own j ≡ m → ((i : ℕ) → i < length own → counterpart own others i ≡ suc j → ⊥) → counterpart others own j ≡ 0
    by zero e none = e
    by (suc i) e none = let back = counterpart_back others own j i h e in absurd (none i back.0 back.1)

-- ---- codes
-- none is gone where each is among the others
pub none-gone : (codes others : List (List ℕ)) → (all_among codes others ≡ true) ↔ (gone codes others ≡ [])
unfolding all_among gone keep
none-gone [] others = (λ e. refl, λ e. refl)
none-gone (c ∷ codes) others = by (among c others) (none-gone codes others)
  where
    by : (t : Bool) → (all_among codes others ≡ true) ↔ (gone codes others ≡ []) → ((t && all_among codes others) ≡ true) ↔ (cond (not t) (c ∷ gone codes others) (gone codes others) ≡ [])
    by true ih = ih
    by false ih = (λ e. absurd (true≢false (sym e)), λ e. absurd (omega (arith, ap length e)))
