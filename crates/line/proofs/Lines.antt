-- Laws of `specs/Line.antt`: what the last space parts, and what one more byte does to a line. Assumes nothing.
use mathlib.Core.Path.{◌≡◌, refl, sym, ap, ◌∙◌}
use mathlib.Core.Bool.{Bool, true, false, cond, ◌||◌, true≢false}
use mathlib.Core.List.{List, [], ◌∷◌, ◌++◌}
use Prim.Native.Nat.{ℕ, ◌≤◌, ◌<◌, min}
use native.Mathlib.Omega.{arith}
use native.Mathlib.Nat.{min-eq_left, min-eq_right}
use native.Mathlib.Decide.{dec_le}
use lib.Dec.{eqb}
use lib.ListN.{length, take}
use lib.Seq.{take-length, take_all}
use borrow.Author.Tests.{eq-eqb, ne_eqb, eqb-true}
use Rattle.hl7.specs.Cut.{ahead, cut, part_at}
use Rattle.hl7.proofs.Cutting.{first}
use Rattle.line.specs.Line.{occurs, before_last, after_last}

-- ---- the last d of some bytes parts them
pub last_parts : (d : ℕ) (s : List ℕ) → occurs d s ≡ true → s ≡ before_last d s ++ (d ∷ after_last d s)
unfolding occurs before_last after_last
last_parts d [] h = absurd (true≢false (sym h))
last_parts d (x ∷ s) h = by-rest (occurs d s) refl (last_parts d s)
  where
    here : (b : Bool) → eqb x d ≡ b → (b || false) ≡ true → x ∷ s ≡ d ∷ cond b s (x ∷ s)
    here true e h = ap (λ (y : ℕ). y ∷ s) (eqb-true x d e)
    here false e h = absurd (true≢false (sym h))

    by-rest : (b : Bool) → occurs d s ≡ b → (occurs d s ≡ true → s ≡ before_last d s ++ (d ∷ after_last d s)) → x ∷ s ≡ before_last d (x ∷ s) ++ (d ∷ after_last d (x ∷ s))
    by-rest true e ih = rw e (ap (λ (l : List ℕ). x ∷ l) (ih e))
    by-rest false e ih = rw e (here (eqb x d) refl (rw e at h))

-- and none stands after it
pub last_is_last : (d : ℕ) (s : List ℕ) → occurs d s ≡ true → occurs d (after_last d s) ≡ false
unfolding occurs after_last
last_is_last d [] h = absurd (true≢false (sym h))
last_is_last d (x ∷ s) h = by-rest (occurs d s) refl (last_is_last d s)
  where
    here : (b : Bool) → occurs d s ≡ false → (b || false) ≡ true → occurs d (cond b s (x ∷ s)) ≡ false
    here true e h = e
    here false e h = absurd (true≢false (sym h))

    by-rest : (b : Bool) → occurs d s ≡ b → (occurs d s ≡ true → occurs d (after_last d s) ≡ false) → occurs d (after_last d (x ∷ s)) ≡ false
    by-rest true e ih = rw e (ih e)
    by-rest false e ih = rw e (here (eqb x d) e (rw e at h))

-- what stands before the last d is a front
pub before-front : (d : ℕ) (s : List ℕ) → before_last d s ≡ take (length (before_last d s)) s
unfolding before_last
before-front d [] = refl
before-front d (x ∷ s) = by-rest (occurs d s) (before-front d s)
  where
    by-rest : (b : Bool) → before_last d s ≡ take (length (before_last d s)) s → cond b (x ∷ before_last d s) [] ≡ take (length (cond b (x ∷ before_last d s) [])) (x ∷ s)
    by-rest true ih = ap (λ (l : List ℕ). x ∷ l) ih
    by-rest false ih = refl

pub before-within : (d : ℕ) (s : List ℕ) → length (before_last d s) ≤ length s
unfolding before_last
before-within d [] = omega arith
before-within d (x ∷ s) = by-rest (occurs d s) (before-within d s)
  where
    by-rest : (b : Bool) → length (before_last d s) ≤ length s → length (cond b (x ∷ before_last d s) []) ≤ length (x ∷ s)
    by-rest true ih = omega arith
    by-rest false ih = omega arith

-- ---- one d more
module _ (d x : ℕ) (e : x ≡ d) where
  pub has_delimiter : (s : List ℕ) → occurs d (s ++ (x ∷ [])) ≡ true
  unfolding occurs
  has_delimiter [] = rw (eq-eqb x d e)
  has_delimiter (y ∷ s) = rw (has_delimiter s) (or_true (eqb y d))
    where
      or_true : (b : Bool) → (b || true) ≡ true
      or_true true = refl
      or_true false = refl

  pub before_delimiter : (s : List ℕ) → before_last d (s ++ (x ∷ [])) ≡ s
  unfolding occurs before_last
  before_delimiter [] = refl
  before_delimiter (y ∷ s) = rw (has_delimiter s) (ap (λ (l : List ℕ). y ∷ l) (before_delimiter s))

  pub after_delimiter : (s : List ℕ) → after_last d (s ++ (x ∷ [])) ≡ []
  unfolding occurs after_last
  after_delimiter [] = rw (eq-eqb x d e)
  after_delimiter (y ∷ s) = rw (has_delimiter s) (after_delimiter s)

-- ---- one other byte more
module _ (d x : ℕ) (n : x ≡ d → ⊥) where
  pub has_other : (s : List ℕ) → occurs d (s ++ (x ∷ [])) ≡ occurs d s
  unfolding occurs
  has_other [] = rw (ne_eqb x d n)
  has_other (y ∷ s) = ap (λ (b : Bool). eqb y d || b) (has_other s)

  pub before_other : (s : List ℕ) → before_last d (s ++ (x ∷ [])) ≡ before_last d s
  unfolding occurs before_last
  before_other [] = refl
  before_other (y ∷ s) = rw (has_other s, before_other s)

  pub after_other : (s : List ℕ) → after_last d (s ++ (x ∷ [])) ≡ after_last d s ++ (x ∷ [])
  unfolding occurs after_last
  after_other [] = rw (ne_eqb x d n)
  after_other (y ∷ s) = rw (has_other s, after_other s) (by_tests (occurs d s) (eqb y d))
    where
      by_tests : (a b : Bool) → cond a (after_last d s ++ (x ∷ [])) (cond b (s ++ (x ∷ [])) (y ∷ (s ++ (x ∷ [])))) ≡ cond a (after_last d s) (cond b s (y ∷ s)) ++ (x ∷ [])
      by_tests true b = refl
      by_tests false true = refl
      by_tests false false = refl

-- ---- the first part of a cut, with more behind it
-- it has ended
pub first_ended : (d : ℕ) (s t : List ℕ) → length (first d s) < length s → first d (s ++ t) ≡ first d s
unfolding cut ahead
first_ended d [] t h = absurd (omega arith)
first_ended d (x ∷ s) t h = by-test (eqb x d) (first_ended d s t) h
  where
    by-test : (b : Bool) → (length (first d s) < length s → first d (s ++ t) ≡ first d s) → length (part_at (ahead b x (cut d s)) 0) < length (x ∷ s) → part_at (ahead b x (cut d (s ++ t))) 0 ≡ part_at (ahead b x (cut d s)) 0
    by-test true ih h = refl
    by-test false ih h = ap (λ (l : List ℕ). x ∷ l) (ih (omega arith))

-- it has not
pub first_open : (d : ℕ) (s t : List ℕ) → length s ≤ length (first d s) → first d (s ++ t) ≡ s ++ first d t
unfolding cut ahead
first_open d [] t h = refl
first_open d (x ∷ s) t h = by-test (eqb x d) (first_open d s t) h
  where
    by-test : (b : Bool) → (length s ≤ length (first d s) → first d (s ++ t) ≡ s ++ first d t) → length (x ∷ s) ≤ length (part_at (ahead b x (cut d s)) 0) → part_at (ahead b x (cut d (s ++ t))) 0 ≡ x ∷ (s ++ first d t)
    by-test true ih h = absurd (omega arith)
    by-test false ih h = ap (λ (l : List ℕ). x ∷ l) (ih (omega arith))

-- ---- fronts
-- as many as there are, or n
pub take_counted : (n : ℕ) (l : List ℕ) → take (min (length l) n) l ≡ take n l
take_counted n l = by_length (dec_le (length l) n)
  where
    by_length : Dec (length l ≤ n) → take (min (length l) n) l ≡ take n l
    by_length (yes h) = rw (min-eq_left h) (take-length l ∙ sym (take_all n l h))
    by_length (no h) = ap (λ (k : ℕ). take k l) (min-eq_right {n = n} {m = length l} (omega arith))
