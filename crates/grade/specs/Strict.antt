-- To be believed. Lists in strict order, and the ranges that they are made of. Assumes nothing.
use Rattle.std.specs.Prelude.{ℕ, zero, suc, ◌<◌, ◌≡◌, ◌⊎◌, Bool, cond}
use mathlib.Core.List.{List, [], ◌∷◌, ◌++◌, map, Memᴰ}

-- each element comes before every later one
abbrev pub Increasing : {A : Type 0} → (A → A → Type 0) → List A → Type 0
Increasing Before [] = Unit {0}
Increasing {A} Before (x ∷ l) = ((y : A) → Memᴰ y l → Before x y) × Increasing Before l

-- by the number first; where that is the same, by the rest
abbrev pub Lex : {A : Type 0} → (A → A → Type 0) → ℕ × A → ℕ × A → Type 0
Lex Before x y = (x.0 < y.0) ⊎ ((x.0 ≡ y.0) × Before x.1 y.1)

-- the elements that pass the test
unfoldable pub keep : {A : Type 0} → (A → Bool) → List A → List A
keep test [] = []
keep test (x ∷ l) = cond (test x) (x ∷ keep test l) (keep test l)

-- the k numbers from n
unfoldable pub count_from : ℕ → ℕ → List ℕ
count_from n zero = []
count_from n (suc k) = n ∷ count_from (suc n) k

-- the k numbers from n, each paired with every element of its list
unfoldable pub pairs_from : {A : Type 0} → ℕ → ℕ → (ℕ → List A) → List (ℕ × A)
pairs_from n zero f = []
pairs_from {A} n (suc k) f = map (λ (a : A). (n, a)) (f n) ++ pairs_from (suc n) k f
