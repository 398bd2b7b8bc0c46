-- Segments by number: each of the ten names has one number, and each number one name. Assumes nothing.
use Prim.Native.Nat.{ℕ, zero, suc, ◌+◌, ◌-◌, ◌<◌, ◌≤◌}
use native.Mathlib.Decide.{dec_lt}
use native.Mathlib.Omega.{arith}
use mathlib.Core.Path.{◌≡◌, refl, sym, ap, ◌∙◌}
use mathlib.Core.Bool.{Bool, true, false, cond, ◌&&◌, and-false, false≢true}
use mathlib.Core.List.{List, [], ◌∷◌}
use lib.Dec.{eqb, leb, ltb, lit≤}
use lib.ListN.{length, get_or, get_or-eq_default}
use borrow.Author.Tests.{eqb-true, leb-true, le-leb, lt-leb, ltb-true}
use Rattle.hl7.specs.Bytes.{same}
use Rattle.hl7.proofs.Comparing.{and_both, same_equal, upto, upto-at}
use Rattle.grade.specs.Limits.{segment_count}
use Rattle.grade.specs.Rule.{msh, other_number, counted, segment_names, name_bytes, number_from, name_of_letters}
use Rattle.grade.specs.Standing.{letters_number, letters_of}

-- ---- the numbers that count
pub is_counted_lem : (n : ℕ) → 1 ≤ n → n ≤ segment_count → counted n ≡ true
is_counted_lem n h k = rw (le-leb 1 n h, le-leb n segment_count k)

pub not-counted : (n : ℕ) → segment_count < n → counted n ≡ false
not-counted n h = rw (lt-leb n segment_count h, and-false (leb 1 n))

pub counted_bounds : (n : ℕ) → counted n ≡ true → (1 ≤ n) × (n ≤ segment_count)
counted_bounds n e =
    let w = and_both (leb 1 n) (leb n segment_count) e in
    (leb-true 1 n w.0, leb-true n segment_count w.1)

-- a test that passes at each of them
pub at-counted : (test : ℕ → Bool) → upto (λ (k : ℕ). test (suc k)) segment_count ≡ true → (n : ℕ) → counted n ≡ true → test n ≡ true
at-counted test each zero h = absurd (false≢true h)
at-counted test each (suc k) h = upto-at (λ (k : ℕ). test (suc k)) segment_count k each (omega (arith, counted_bounds (suc k) h))

-- ---- the number of a name

-- a number below 11 tells the name
number-tells : (k : ℕ) (v : List ℕ) (names : List (List ℕ)) (n : ℕ) → n < other_number → number_from k v names ≡ n → (k ≤ n) × (v ≡ get_or names (n - k) [])
unfolding number_from
number-tells k v [] n h e = absurd (omega arith)
number-tells k v (x ∷ names) n h e = go (same v x) refl e (number-tells (suc k) v names n h)
  where
    go : (t : Bool) → same v x ≡ t → cond t k (number_from (suc k) v names) ≡ n →
        (number_from (suc k) v names ≡ n → (suc k ≤ n) × (v ≡ get_or names (n - suc k) [])) → (k ≤ n) × (v ≡ get_or (x ∷ names) (n - k) [])
    go true t d f =
        let z : n - k ≡ 0 = omega arith in
        (omega arith, rw z (same_equal v x t))
    go false t d f =
        let w = f d in
        let z : n - k ≡ suc (n - suc k) = omega (arith, w.0) in
        (omega (arith, w.0), rw z w.1)

pub number_bounds : (k : ℕ) (v : List ℕ) (names : List (List ℕ)) → k + length names ≤ other_number → (k ≤ number_from k v names) × (number_from k v names ≤ other_number)
unfolding number_from
number_bounds k v [] h = (omega arith, omega arith)
number_bounds k v (x ∷ names) h = go (same v x) (number_bounds (suc k) v names (omega arith))
  where
    go : (t : Bool) → (suc k ≤ number_from (suc k) v names) × (number_from (suc k) v names ≤ other_number) → (k ≤ cond t k (number_from (suc k) v names)) × (cond t k (number_from (suc k) v names) ≤ other_number)
    go true f = (omega arith, omega arith)
    go false f = (omega (arith, f.0), f.1)

pub name_bounds : (a b c : ℕ) → (1 ≤ name_of_letters a b c) × (name_of_letters a b c ≤ other_number)
unfolding name_of_letters segment_names
name_bounds a b c = number_bounds msh (a ∷ b ∷ c ∷ []) segment_names (lit≤ tt)

-- a name that does not count has the number of any other
pub uncounted : (a b c : ℕ) → counted (name_of_letters a b c) ≡ false → name_of_letters a b c ≡ other_number
uncounted a b c e = by (dec_lt segment_count (name_of_letters a b c))
  where
    by : Dec (segment_count < name_of_letters a b c) → name_of_letters a b c ≡ other_number
    by (yes l) = omega (arith, name_bounds a b c)
    by (no l) = absurd (false≢true (sym e ∙ is_counted_lem (name_of_letters a b c) (name_bounds a b c).0 (omega arith)))

-- ---- the letters of a name
abbrev letter : ℕ → ℕ → ℕ
letter n k = get_or (name_bytes n) k 0

pub name_letters : (a b c n : ℕ) → counted n ≡ true → name_of_letters a b c ≡ n → a ∷ b ∷ c ∷ [] ≡ name_bytes n
unfolding name_of_letters name_bytes
name_letters a b c zero h e = absurd (false≢true h)
name_letters a b c (suc n) h e =
    let less : suc n - 1 ≡ n = omega arith in
    rw less at (number-tells msh (a ∷ b ∷ c ∷ []) segment_names (suc n) (omega (arith, counted_bounds (suc n) h)) e).1

-- a number that is none of the ten has none
pub no_name : (n : ℕ) → counted n ≡ false → name_bytes n ≡ []
unfolding name_bytes segment_names
no_name zero h = refl
no_name (suc n) h = by (dec_lt segment_count (suc n))
  where
    by : Dec (segment_count < suc n) → get_or ([] ∷ segment_names) (suc n) [] ≡ []
    by (yes l) = get_or-eq_default ([] ∷ segment_names) [] l
    by (no l) = absurd (false≢true (sym h ∙ is_counted_lem (suc n) (omega arith) (omega arith)))

-- the number that they have
pub letters_name : (n : ℕ) → counted n ≡ true → name_of_letters (letter n 0) (letter n 1) (letter n 2) ≡ n
unfolding name_of_letters name_bytes segment_names number_from same
letters_name n h = eqb-true _ n (at-counted (λ (k : ℕ). eqb (name_of_letters (letter k 0) (letter k 1) (letter k 2)) k) refl n h)

abbrev bytes_at : ℕ → Bool
bytes_at n = ltb (letter n 0) 256 && ltb (letter n 1) 256 && ltb (letter n 2) 256

letters_small : (n : ℕ) → counted n ≡ true → (letter n 0 < 256) × (letter n 1 < 256) × (letter n 2 < 256)
unfolding name_bytes segment_names
letters_small n h =
    let t = and_both _ (ltb (letter n 2) 256) (at-counted bytes_at refl n h) in
    let u = and_both (ltb (letter n 0) 256) (ltb (letter n 1) 256) t.0 in
    (ltb-true _ 256 u.0, ltb-true _ 256 u.1, ltb-true _ 256 t.1)

-- three letters that make the same number as those of a name are its letters
pub number-name : (a b c n : ℕ) → a < 256 → b < 256 → c < 256 → counted n ≡ true → letters_number a b c ≡ letters_of n → name_of_letters a b c ≡ n
number-name a b c n ha hb hc h e =
    let small = letters_small n h in
    spelt (letter n 0) (letter n 1) (letter n 2) small.0 small.1 small.2 e (letters_name n h)
  where
    spelt : (x y z : ℕ) → x < 256 → y < 256 → z < 256 → letters_number a b c ≡ letters_number x y z → name_of_letters x y z ≡ n → name_of_letters a b c ≡ n
    spelt x y z hx hy hz f s =
        let p : a ≡ x = omega arith in
        let q : b ≡ y = omega arith in
        let r : c ≡ z = omega arith in
        rw (p, q, r) s

-- a name whose number is not that of three letters is not theirs
pub other_name : (a b c x y z : ℕ) → (letters_number a b c ≡ letters_number x y z → ⊥) → same (a ∷ b ∷ c ∷ []) (x ∷ y ∷ z ∷ []) ≡ false
other_name a b c x y z n = go (same (a ∷ b ∷ c ∷ []) (x ∷ y ∷ z ∷ [])) refl
  where
    go : (t : Bool) → same (a ∷ b ∷ c ∷ []) (x ∷ y ∷ z ∷ []) ≡ t → t ≡ false
    go true e =
        absurd (n (ap (λ (name : List ℕ). letters_number (get_or name 0 0) (get_or name 1 0) (get_or name 2 0)) (same_equal (a ∷ b ∷ c ∷ []) (x ∷ y ∷ z ∷ []) e)))
    go false e = refl
