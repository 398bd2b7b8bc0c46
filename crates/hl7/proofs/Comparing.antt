-- Laws of `specs/Bytes.antt`, each in the words of a loop that goes along the bytes by index. Assumes nothing.
use mathlib.Core.Path.{◌≡◌, refl, sym, ap, ap₂, ◌∙◌}
use mathlib.Core.Bool.{Bool, true, false, cond, not, ◌&&◌, ◌||◌, and-true, and-false, and_assoc, true≢false}
use mathlib.Core.List.{List, [], ◌∷◌, ◌++◌, map}
use Prim.Native.Nat.{ℕ, zero, suc, ◌+◌, ◌-◌, ◌≤◌, ◌<◌, max}
use native.Mathlib.Numerals.{add-one}
use native.Mathlib.Nat.{le_of_eq, not-suc-le-zero, le_of_suc-le-suc, add-zero, sub-zero}
use native.Mathlib.Omega.{arith}
use native.Mathlib.Decide.{ℕ_discrete}
use lib.Dec.{eqb}
use lib.ListN.{length, get_or, take, drop, length-drop, drop_of_length-le}
use lib.Seq.{drop-cons, get_or-drop, take_all, take-nil, slice}
use borrow.Author.Tests.{eq-eqb, ne_eqb, eqb-true, eqb-false, not-true}
use Rattle.std.proofs.Common.{count_by}
use Rattle.std.proofs.lemmas.List.Recursion.{is_count_by}
use Rattle.std.specs.Cmp.Lexicographic.{pointwise}
use Rattle.std.specs.Int.{from_bool}
use Rattle.std.specs.List.{starts_with}
use Rattle.std.specs.Prelude.{nat_eq}
use Rattle.hl7.specs.Bytes.{is_in, distinct, all, same, among, begins}
use Rattle.hl7.specs.Spans.{occurrences}

-- ---- lists
-- what is left at i is the element there and what is left after it
pub rest_at : (v : List ℕ) (i : ℕ) → i < length v → drop i v ≡ get_or v i 0 ∷ drop (i + 1) v
rest_at v i h = rw (add-one, drop-cons v i 0)

-- the part `&v[from..n]` up to the end n is what is left at `from`
pub tail-whole : (v : List ℕ) (from : ℕ) → take (length v - from) (drop from v) ≡ drop from v
tail-whole v from = take_all (length v - from) (drop from v) (le_of_eq (length-drop from v))

-- a list without elements is empty
pub none_of : (l : List ℕ) → length l ≤ 0 → l ≡ []
none_of [] h = refl
none_of (x ∷ l) h = absurd (omega arith)

pub and_both : (t u : Bool) → (t && u) ≡ true → (t ≡ true) × (u ≡ true)
and_both true u e = (refl, e)
and_both false u e = absurd (true≢false (sym e))

-- what is picked of two numbers is no more than the greater
pub picked_most : (test : Bool) (one other r : ℕ) → r ≡ cond test one other → r ≤ max one other
picked_most true one other r e = omega (arith, e)
picked_most false one other r e = omega (arith, e)

-- how often a number stands in a list, in the library's words
pub occurs_counted : (d : ℕ) (s : List ℕ) → occurrences d s ≡ count_by (λ x. eqb x d) s
unfolding occurrences
occurs_counted d s = is_count_by (occurrences d) (λ x. eqb x d) refl (λ x xs. by (eqb x d) (occurrences d xs)) s
  where
    by : (b : Bool) (n : ℕ) → cond b 1 0 + n ≡ cond b (1 + n) n
    by true n = refl
    by false n = omega arith

-- a test, as a number to count with
pub counted_test : (test : Bool) (r : ℕ) → r ≡ from_bool test → r ≡ cond test 1 0
counted_test true r e = e
counted_test false r e = e

pub or_neither : (t u : Bool) → (t || u) ≡ false → (t ≡ false) × (u ≡ false)
or_neither true u e = absurd (true≢false e)
or_neither false u e = (refl, e)

-- a part as the code cuts it, `&v[from..to]`, is the slice from `from` up to `to`
pub part_slice : (v : List ℕ) (from to : ℕ) → from ≤ to → take (to - from) (drop from v) ≡ slice from to v
part_slice v zero to h = rw sub-zero
part_slice v (suc from) zero h = absurd (not-suc-le-zero h)
part_slice [] (suc from) (suc to) h = take-nil (suc to - suc from)
part_slice (x ∷ v) (suc from) (suc to) h =
    let e : suc to - suc from ≡ to - from = omega arith in
    rw e (part_slice v from to (le_of_suc-le-suc h))

-- a list that is taken apart at i
module _ {A : Type 0} (l : List A) (i : ℕ) (x : A) (rest : List A) (e : drop i l ≡ x ∷ rest) where
  pub drop_head : (d : A) → get_or l i d ≡ x
  drop_head d = rw (← add-zero i, ← get_or-drop i l 0 d, e)

-- a test of every number below k, to be computed
abbrev pub upto : (ℕ → Bool) → ℕ → Bool
upto test zero = true
upto test (suc k) = test k && upto test k

pub upto-at : (test : ℕ → Bool) (k n : ℕ) → upto test k ≡ true → n < k → test n ≡ true
upto-at test zero n h l = absurd (not-suc-le-zero l)
upto-at test (suc k) n h l =
    let t = and_both (test k) (upto test k) h in
    go (eqb n k) refl t.0 (upto-at test k n t.1)
  where
    go : (e : Bool) → eqb n k ≡ e → test k ≡ true → (n < k → test n ≡ true) → test n ≡ true
    go true e t f = rw (eqb-true n k e) t
    go false e t f = let d = eqb-false n k e in f (omega (arith, d))

-- ---- every byte passes a test
-- a test that all pass is passed by each, and by one more
pub all-at : (test : ℕ → Bool) (v : List ℕ) (i : ℕ) → all test v ≡ true → i < length v → test (get_or v i 0) ≡ true
unfolding all
all-at test [] i h k = absurd (not-suc-le-zero k)
all-at test (x ∷ v) zero h k = (and_both (test x) (all test v) h).0
all-at test (x ∷ v) (suc i) h k = all-at test v i (and_both (test x) (all test v) h).1 (le_of_suc-le-suc k)

-- every byte of what is put together, or taken apart
module _ (test : ℕ → Bool) where
  pub all_append : (s t : List ℕ) → all test s ≡ true → all test t ≡ true → all test (s ++ t) ≡ true
  unfolding all
  all_append [] t e f = f
  all_append (x ∷ s) t e f = let both = and_both (test x) (all test s) e in rw both.0 (all_append s t both.1 f)

  pub all_take : (n : ℕ) (s : List ℕ) → all test s ≡ true → all test (take n s) ≡ true
  unfolding all
  all_take zero s e = refl
  all_take (suc n) [] e = refl
  all_take (suc n) (x ∷ s) e = let both = and_both (test x) (all test s) e in rw both.0 (all_take n s both.1)

  pub all_drop : (n : ℕ) (s : List ℕ) → all test s ≡ true → all test (drop n s) ≡ true
  unfolding all
  all_drop zero s e = e
  all_drop (suc n) [] e = refl
  all_drop (suc n) (x ∷ s) e = all_drop n s (and_both (test x) (all test s) e).1

-- a weaker test
pub all_as : (test other : ℕ → Bool) → ((x : ℕ) → test x ≡ true → other x ≡ true) → (s : List ℕ) → all test s ≡ true → all other s ≡ true
unfolding all
all_as test other weaker [] e = refl
all_as test other weaker (x ∷ s) e = let both = and_both (test x) (all test s) e in rw (weaker x both.0) (all_as test other weaker s both.1)

-- gathered by a loop without an early exit
pub all-gathered : (test : ℕ → Bool) (v : List ℕ) (i : ℕ) (b : Bool) → i < length v → (b && all test (drop i v)) ≡ ((b && test (get_or v i 0)) && all test (drop (i + 1) v))
unfolding all
all-gathered test v i b h = ap (λ (l : List ℕ). b && all test l) (rest_at v i h) ∙ sym (and_assoc b (test (get_or v i 0)) (all test (drop (i + 1) v)))

pub all-over : (test : ℕ → Bool) (v : List ℕ) (i : ℕ) (b : Bool) → length v ≤ i → (b && all test (drop i v)) ≡ b
unfolding all
all-over test v i b h = ap (λ (l : List ℕ). b && all test l) (drop_of_length-le v h) ∙ and-true b

-- with one more at the end
pub all_last : (test : ℕ → Bool) (v : List ℕ) (x : ℕ) → all test (v ++ (x ∷ [])) ≡ (all test v && test x)
unfolding all
all_last test [] x = and-true (test x)
all_last test (y ∷ v) x = ap (λ (b : Bool). test y && b) (all_last test v x) ∙ sym (and_assoc (test y) (all test v) (test x))

-- ---- how many bytes are d
module _ (d : ℕ) (v : List ℕ) (i : ℕ) where
  pub occurs_more : i < length v → occurrences d (drop i v) ≡ cond (eqb (get_or v i 0) d) 1 0 + occurrences d (drop (i + 1) v)
  unfolding occurrences
  occurs_more h = ap (occurrences d) (rest_at v i h)

  pub occurs-none : length v ≤ i → occurrences d (drop i v) ≡ 0
  unfolding occurrences
  occurs-none h = ap (occurrences d) (drop_of_length-le v h)

-- ---- numbers that differ pairwise
not_in : (n : ℕ) (l : List ℕ) (k : ℕ) → is_in n l ≡ false → k < length l → n ≡ get_or l k 0 → ⊥
unfolding is_in
not_in n [] k e h same = absurd (omega arith)
not_in n (x ∷ l) zero e h same = eqb-false n x (or_neither (eqb n x) (is_in n l) e).0 same
not_in n (x ∷ l) (suc k) e h same = not_in n l k (or_neither (eqb n x) (is_in n l) e).1 (omega arith) same

pub distinct_one : (l : List ℕ) (j k : ℕ) → distinct l ≡ true → j < length l → k < length l → get_or l j 0 ≡ get_or l k 0 → j ≡ k
unfolding distinct
distinct_one [] j k e h g same = absurd (omega arith)
distinct_one (n ∷ l) zero zero e h g same = refl
distinct_one (n ∷ l) zero (suc k) e h g same = absurd (not_in n l k (not-true _ (and_both (not (is_in n l)) (distinct l) e).0) (omega arith) same)
distinct_one (n ∷ l) (suc j) zero e h g same = absurd (not_in n l j (not-true _ (and_both (not (is_in n l)) (distinct l) e).0) (omega arith) (sym same))
distinct_one (n ∷ l) (suc j) (suc k) e h g same = ap suc (distinct_one l j k (and_both (not (is_in n l)) (distinct l) e).1 (omega arith) (omega arith) same)

-- ---- the same bytes
-- what `==` says of two slices
pub same_slices : (v w : List ℕ) → pointwise nat_eq v w ≡ same v w
unfolding same
same_slices [] [] = refl
same_slices [] (y ∷ w) = refl
same_slices (x ∷ v) [] = refl
same_slices (x ∷ v) (y ∷ w) = ap (λ (t : Bool). eqb x y && t) (same_slices v w)

pub same_lengths : (v w : List ℕ) → (length v ≡ length w → ⊥) → same v w ≡ false
unfolding same
same_lengths [] [] h = absurd (h refl)
same_lengths [] (y ∷ w) h = refl
same_lengths (x ∷ v) [] h = refl
same_lengths (x ∷ v) (y ∷ w) h = ap (λ (t : Bool). eqb x y && t) (same_lengths v w (λ e. h (ap suc e))) ∙ and-false (eqb x y)

-- equal bytes are the same, and the same bytes are equal
pub same_self : (v : List ℕ) → same v v ≡ true
unfolding same
same_self [] = refl
same_self (x ∷ v) = rw (eq-eqb x x refl) (same_self v)

pub same_equal : (v w : List ℕ) → same v w ≡ true → v ≡ w
unfolding same
same_equal [] [] h = refl
same_equal [] (y ∷ w) h = absurd (true≢false (sym h))
same_equal (x ∷ v) [] h = absurd (true≢false (sym h))
same_equal (x ∷ v) (y ∷ w) h =
    let t = and_both (eqb x y) (same v w) h in
    ap₂ ◌∷◌ (eqb-true x y t.0) (same_equal v w t.1)

-- ---- texts
-- what stands at the positions of a list, from number i on
module _ {A : Type 0} (f : ℕ → A) (l : List ℕ) (i : ℕ) where
  pub from_done : length l ≤ i → map f (drop i l) ≡ []
  from_done h = rw (drop_of_length-le l h)

  pub from_step : i < length l → map f (drop i l) ≡ f (get_or l i 0) ∷ map f (drop (i + 1) l)
  from_step h = rw (rest_at l i h)

-- a text among others that are put together
pub among-append : (c : List ℕ) (cs ds : List (List ℕ)) → among c (cs ++ ds) ≡ (among c cs || among c ds)
unfolding among
among-append c [] ds = refl
among-append c (d ∷ cs) ds = by (same c d) (among-append c cs ds)
  where
    by : (b : Bool) → among c (cs ++ ds) ≡ (among c cs || among c ds) → (b || among c (cs ++ ds)) ≡ (b || among c cs || among c ds)
    by true ih = refl
    by false ih = ih

-- ---- beginnings
eqb_sym : (a b : ℕ) → eqb a b ≡ eqb b a
eqb_sym a b = by (ℕ_discrete a b)
  where
    by : Dec (a ≡ b) → eqb a b ≡ eqb b a
    by (yes e) = rw (eq-eqb a b e, eq-eqb b a (sym e))
    by (no other) = rw (ne_eqb a b other, ne_eqb b a (λ e. other (sym e)))

-- what `starts_with` says of two slices
pub begins_slice : (p s : List ℕ) → starts_with nat_eq s p ≡ begins p s
unfolding begins
begins_slice [] s = refl
begins_slice (x ∷ p) [] = refl
begins_slice (x ∷ p) (y ∷ s) = ap₂ ◌&&◌ (eqb_sym x y) (begins_slice p s)

-- what begins with p is as long as p at least
pub begins-long : (p s : List ℕ) → begins p s ≡ true → length p ≤ length s
unfolding begins
begins-long [] s e = omega arith
begins-long (x ∷ p) [] e = absurd (true≢false (sym e))
begins-long (x ∷ p) (y ∷ s) e = longer (eqb y x) (begins-long p s) e
  where
    longer : (b : Bool) → (begins p s ≡ true → length p ≤ length s) → (b && begins p s) ≡ true → length (x ∷ p) ≤ length (y ∷ s)
    longer true ih e = omega (arith, ih e)
    longer false ih e = absurd (true≢false (sym e))
