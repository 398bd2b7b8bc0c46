-- Inner: only contracts inside the crate use these names; nothing here has to be believed.
-- A cell by the numbers that it holds. Assumes nothing.
use Rattle.std.specs.Prelude.{ℕ, ◌≤◌, ◌<◌, ◌≡◌, List, [], ◌∷◌, map, Option, Some, None}
use mathlib.Core.Path.{refl, ap}
use native.Mathlib.Omega.{arith}
use Rattle.booktext.specs.declared.cell.CellOf.{CellOf}

-- a cell, however many bits its numbers have
abbrev pub Cell : Type 0
Cell = CellOf ℕ

-- a number, where there is one
abbrev pub held_number : {N : Type 0} → (N → ℕ) → Option N → Option ℕ
held_number number None = None
held_number number (Some n) = Some (number n)

abbrev pub numbered : {N : Type 0} → (N → ℕ) → CellOf N → Cell
numbered number c = record { line = number c.line; bound = held_number number c.bound; spot = number c.spot; given = c.given; verb = c.verb }

-- numbers stand for themselves
pub numbered_same : (c : Cell) → c ≡ numbered (λ n. n) c
numbered_same c = by c.bound
  where
    with : Option ℕ → Cell
    with bound = record { line = c.line; bound = bound; spot = c.spot; given = c.given; verb = c.verb }

    by : (bound : Option ℕ) → with bound ≡ with (held_number (λ n. n) bound)
    by None = refl
    by (Some n) = refl

pub all_same : (cs : List Cell) → cs ≡ map (λ c. c) cs
all_same [] = refl
all_same (c ∷ cs) = ap (λ (l : List Cell). c ∷ l) (all_same cs)

-- 32 bits hold a number, and then each that is smaller, and those of places and kinds
abbrev pub is_small : ℕ → Type 0
is_small n = n < 4294967296

pub less_small : (n m : ℕ) → m ≤ n → is_small n → is_small m
less_small n m h k = omega (arith, h, k)

pub spot_small : is_small 4000000
spot_small = omega arith
