-- Laws of the readers: where a row of readings ends, and what was read, from what its parts tell. Assumes nothing.
use Rattle.std.specs.Prelude.{Some, None}
use Prim.Native.Nat.{ℕ, zero, suc, ◌+◌, ◌-◌, ◌*◌, ◌<◌, ◌≤◌}
use native.Mathlib.Nat.{not-suc-le-zero, le_of_suc-le-suc, mul-zero, mul-suc, add-zero}
use native.Mathlib.Omega.{arith}
use native.Mathlib.Numerals.{add-one}
use mathlib.Core.Path.{◌≡◌, refl, sym, ap, ◌∙◌}
use mathlib.Core.List.{List, [], ◌∷◌, ◌++◌, map, append_assoc, append-nil}
use mathlib.Core.Bool.{Bool, true, false, cond, false≢true}
use borrow.Author.Tests.{leb-true}
use lib.Dec.{leb}
use lib.ListN.{length, get_or, take, set}
use lib.Seq.{slice, take-suc-set}
use Rattle.hl7.specs.Bytes.{all}
use Rattle.grade.specs.Standing.{end_of, mapped, starting}
use Rattle.grade.specs.Reader.{Parsed, fault, found, is_found, items_of, Reader, and_then, check, byte, pair, two_bytes, run, times}

-- what is given after a reading does not move its end
pub end_given : {A B : Type 0} (r : Parsed A) (f : A → B) → end_of (mapped f r) ≡ end_of r
end_given fault f = refl
end_given (found a after) f = refl

-- where two readers differ in their values alone, rows of them do too
module _ {A B : Type 0} (p : Reader A) (q : Reader B) (f : A → B) (b : List ℕ) (same : (at : ℕ) → q b at ≡ mapped f (p b at)) where
  pub row-mapped : (n at : ℕ) → times n q b at ≡ mapped (map f) (times n p b at)
  unfolding times
  row-mapped zero at = refl
  row-mapped (suc n) at = rw (same at) (by (λ end. row-mapped n end) (p b at))
    where
      more : (a : A) (r : Parsed (List A)) → and_then (mapped (map f) r) (λ rest end. found (f a ∷ rest) end) ≡ mapped (map f) (mapped (λ rest. a ∷ rest) r)
      more a fault = refl
      more a (found rest end) = refl

      by : ((end : ℕ) → times n q b end ≡ mapped (map f) (times n p b end)) → (r : Parsed A) →
          and_then (mapped f r) (λ x end. mapped (λ rest. x ∷ rest) (times n q b end))
          ≡ mapped (map f) (and_then r (λ x end. mapped (λ rest. x ∷ rest) (times n p b end)))
      by ih fault = refl
      by ih (found a end) = rw (ih end) (more a (times n p b end))

module _ {A : Type 0} where
  -- a reading that ends somewhere has found something there
  pub ended : (r : Parsed A) (e : ℕ) → end_of r ≡ Some e → (a : A) × (r ≡ found a e)
  ended fault e h = let z : ◌≡◌ {A = ℕ} 0 1 = cc in absurd (omega arith)
  ended (found a after) e h = (a, cc)

  pub is_found_lem : (r : Parsed A) → is_found r ≡ true → (a : A) × (e : ℕ) × (r ≡ found a e)
  is_found_lem fault h = absurd (false≢true h)
  is_found_lem (found a e) h = (a, e, refl)

  pub faulted : (r : Parsed A) → end_of r ≡ None → r ≡ fault
  faulted fault h = refl
  faulted (found a after) h = let z : ◌≡◌ {A = ℕ} 0 1 = cc in absurd (omega arith)

  module _ (p : Reader A) (b : List ℕ) where
    pub times_none : (n at : ℕ) → n ≤ 0 → end_of (times n p b at) ≡ Some at
    unfolding times
    times_none zero at h = refl
    times_none (suc n) at h = absurd (not-suc-le-zero h)

    pub times_empty : (n at : ℕ) → n ≤ 0 → items_of (times n p b at) ≡ []
    unfolding times
    times_empty zero at h = refl
    times_empty (suc n) at h = absurd (not-suc-le-zero h)

    -- the first of n ends at e: what follows is the other n - 1 from there
    pub times-next : (n at e : ℕ) → 0 < n → end_of (p b at) ≡ Some e → end_of (times n p b at) ≡ end_of (times (n - 1) p b e)
    unfolding times
    times-next zero at e h q = absurd (not-suc-le-zero h)
    times-next (suc n) at e h q =
        let w = ended (p b at) e q in
        let m : suc n - 1 ≡ n = omega arith in
        rw (w.1, m) (end_given (times n p b e) (λ rest. w.0 ∷ rest))

    -- the first of n is a fault
    pub times-fault : (n at : ℕ) → 0 < n → end_of (p b at) ≡ None → end_of (times n p b at) ≡ None
    unfolding times
    times-fault zero at h q = absurd (not-suc-le-zero h)
    times-fault (suc n) at h q = rw (faulted (p b at) q)

-- ---- inversion: what was found tells what its readers found

-- two readings one after the other
pub then_found : {A B : Type 0} (r : Parsed A) (k : A → ℕ → Parsed B) (v : B) (e : ℕ) → and_then r k ≡ found v e →
    (a : A) × (m : ℕ) × (r ≡ found a m) × (k a m ≡ found v e)
then_found fault k v e h = let z : ◌≡◌ {A = ℕ} 0 1 = cc in absurd (omega arith)
then_found (found a m) k v e h = (a, m, refl, h)

pub found-same : {A : Type 0} (a a' : A) (e e' : ℕ) → found a e ≡ found a' e' → (a ≡ a') × (e ≡ e')
found-same a a' e e' h = (cc, cc)

-- which case of a decision gave an answer
pub cond_gave : {R G : Type 0} (t : Bool) (x y v : R) → (t ≡ true → x ≡ v → G) → (y ≡ v → G) → cond t x y ≡ v → G
cond_gave true x y v f g h = f refl h
cond_gave false x y v f g h = g h

-- a reading under a test
pub cond-found : {A : Type 0} (t : Bool) (r : Parsed A) (v : A) (e : ℕ) → cond t r fault ≡ found v e → (t ≡ true) × (r ≡ found v e)
cond-found true r v e h = (refl, h)
cond-found false r v e h = let z : ◌≡◌ {A = ℕ} 0 1 = cc in absurd (omega arith)

pub check-found : (t : Bool) (b : List ℕ) (at : ℕ) (u : Unit {0}) (e : ℕ) → check t b at ≡ found u e → (t ≡ true) × (e ≡ at)
check-found true b at u e h = (refl, cc)
check-found false b at u e h = let z : ◌≡◌ {A = ℕ} 0 1 = cc in absurd (omega arith)

pub byte-found : (b : List ℕ) (at v e : ℕ) → byte b at ≡ found v e → (at + 1 ≤ length b) × (v ≡ get_or b at 0) × (e ≡ at + 1)
byte-found b at v e h =
    let w = cond-found (leb (at + 1) (length b)) (found (get_or b at 0) (at + 1)) v e h in
    (leb-true (at + 1) (length b) w.0, cc, cc)

pub two_found : (b : List ℕ) (at v e : ℕ) → two_bytes b at ≡ found v e → (at + 2 ≤ length b) × (v ≡ pair b at) × (e ≡ at + 2)
two_found b at v e h =
    let w = cond-found (leb (at + 2) (length b)) (found (pair b at) (at + 2)) v e h in
    (leb-true (at + 2) (length b) w.0, cc, cc)

pub run-found : (n : ℕ) (b : List ℕ) (at : ℕ) (v : List ℕ) (e : ℕ) → run n b at ≡ found v e →
    (at + n ≤ length b) × (v ≡ slice at (at + n) b) × (e ≡ at + n)
run-found n b at v e h =
    let w = cond-found (leb (at + n) (length b)) (found (slice at (at + n) b) (at + n)) v e h in
    (leb-true (at + n) (length b) w.0, cc, cc)

-- ---- a row of readings, with those that were read before it

module _ {A : Type 0} where
  abbrev pub after : List A → Parsed (List A) → Parsed (List A)
  after done r = and_then r (λ items end. found (done ++ items) end)

  pub after-nil : (r : Parsed (List A)) → after [] r ≡ r
  after-nil fault = refl
  after-nil (found items end) = refl

  after-cons : (done : List A) (a : A) (r : Parsed (List A)) → after done (and_then r (λ rest end. found (a ∷ rest) end)) ≡ after (done ++ (a ∷ [])) r
  after-cons done a fault = refl
  after-cons done a (found rest end) = rw append_assoc

  module _ (p : Reader A) (b : List ℕ) (done : List A) where
    pub row_next : (n at e : ℕ) (a : A) → 0 < n → p b at ≡ found a e → after done (times n p b at) ≡ after (done ++ (a ∷ [])) (times (n - 1) p b e)
    unfolding times
    row_next zero at e a h q = absurd (not-suc-le-zero h)
    row_next (suc n) at e a h q =
        let m : suc n - 1 ≡ n = omega arith in
        rw (q, m) (after-cons done a (times n p b e))

    pub row-fault : (n at : ℕ) → 0 < n → p b at ≡ fault → after done (times n p b at) ≡ fault
    unfolding times
    row-fault zero at h q = absurd (not-suc-le-zero h)
    row-fault (suc n) at h q = rw q

    pub row-none : (n at : ℕ) → n ≤ 0 → after done (times n p b at) ≡ found done at
    unfolding times
    row-none zero at h = rw append-nil
    row-none (suc n) at h = absurd (not-suc-le-zero h)

-- ---- a row that was found: its first, its length, its j-th where all are of one size

module _ {A : Type 0} (p : Reader A) (b : List ℕ) where
  pub row-found : (n at : ℕ) (xs : List A) (e : ℕ) → 0 < n → times n p b at ≡ found xs e →
      (a : A) × (m : ℕ) × (rest : List A) × (p b at ≡ found a m) × (times (n - 1) p b m ≡ found rest e) × (xs ≡ a ∷ rest)
  unfolding times
  row-found zero at xs e h q = absurd (not-suc-le-zero h)
  row-found (suc n) at xs e h q =
      let s = then_found (p b at) _ xs e q in
      let t = then_found (times n p b s.1) _ xs e s.3 in
      let m : suc n - 1 ≡ n = omega arith in
      let w = found-same (s.0 ∷ t.0) xs t.1 e t.3 in
      (s.0, s.1, t.0, s.2, rw m (t.2 ∙ ap (found t.0) w.1), sym w.0)

  pub row-length : (n at : ℕ) (xs : List A) (e : ℕ) → times n p b at ≡ found xs e → length xs ≡ n
  unfolding times
  row-length zero at xs e q = rw (← (found-same [] xs at e q).0)
  row-length (suc n) at xs e q =
      let s = row-found (suc n) at xs e (omega arith) q in
      let m : suc n - 1 ≡ n = omega arith in
      rw s.5 (ap suc (row-length n s.1 s.2 e (rw m at s.4)))

  module _ (size : ℕ) (sized : (at : ℕ) (a : A) (e : ℕ) → p b at ≡ found a e → e ≡ at + size) (d : A) where
    pub row_at : (n at : ℕ) (xs : List A) (e j : ℕ) → times n p b at ≡ found xs e → j < n →
        p b (at + size * j) ≡ found (get_or xs j d) (at + size * j + size)
    row_at zero at xs e j q h = absurd (not-suc-le-zero h)
    row_at (suc n) at xs e zero q h =
        let s = row-found (suc n) at xs e (omega arith) q in
        let l : get_or xs zero d ≡ s.0 = ap (λ (ys : List A). get_or ys zero d) s.5 in
        rw (mul-zero, add-zero, l, ← sized at s.0 s.1 s.3) s.3
    row_at (suc n) at xs e (suc j) q h =
        let s = row-found (suc n) at xs e (omega arith) q in
        let m : suc n - 1 ≡ n = omega arith in
        let k : at + size * suc j ≡ s.1 + size * j = omega (arith, mul-suc size j, sized at s.0 s.1 s.3) in
        let l : get_or xs (suc j) d ≡ get_or s.2 j d = ap (λ (ys : List A). get_or ys (suc j) d) s.5 in
        rw (k, l) (row_at n s.1 s.2 e j (rw m at s.4) (le_of_suc-le-suc h))

    -- and where they end
    pub row_end : (n at : ℕ) (xs : List A) (e : ℕ) → times n p b at ≡ found xs e → e ≡ at + size * n
    unfolding times
    row_end zero at xs e q = rw (mul-zero, add-zero) (sym (found-same [] xs at e q).1)
    row_end (suc n) at xs e q =
        let s = row-found (suc n) at xs e (omega arith) q in
        let m : suc n - 1 ≡ n = omega arith in
        let k = row_end n s.1 s.2 e (rw m at s.4) in
        omega (arith, mul-suc size n, sized at s.0 s.1 s.3)

  -- a row of readings that each end within the book ends there
  pub row_inside : ((at : ℕ) (a : A) (e : ℕ) → p b at ≡ found a e → e ≤ length b) →
      (n at : ℕ) (xs : List A) (e : ℕ) → at ≤ length b → times n p b at ≡ found xs e → e ≤ length b
  unfolding times
  row_inside f zero at xs e h q = rw (← (found-same [] xs at e q).1) h
  row_inside f (suc n) at xs e h q =
      let s = row-found (suc n) at xs e (omega arith) q in
      let m : suc n - 1 ≡ n = omega arith in
      row_inside f n s.1 s.2 e (f at s.0 s.1 s.3) (rw m at s.4)

-- ---- a row by where its parts start

module _ {A : Type 0} (p : Reader A) (b : List ℕ) where
  pub start-found : (at end : ℕ) → end_of (p b at) ≡ Some end → starting p b at ≡ found at end
  start-found at end h = ap (mapped (λ _. at)) (ended (p b at) end h).1

  -- each can be read where it starts
  pub starts-stand : (n at : ℕ) (starts : List ℕ) (end : ℕ) → times n (starting p) b at ≡ found starts end → all (λ at. is_found (p b at)) starts ≡ true
  unfolding times all
  starts-stand zero at starts end q = ap (all (λ at. is_found (p b at))) (sym (found-same [] starts at end q).0)
  starts-stand (suc n) at starts end q =
      let s = row-found (starting p) b (suc n) at starts end (omega arith) q in
      let m : suc n - 1 ≡ n = omega arith in
      let t = then_found (p b at) _ s.0 s.1 s.3 in
      let here : is_found (p b s.0) ≡ true = ap (λ (k : ℕ). is_found (p b k)) (sym (found-same at s.0 t.1 s.1 t.3).0) ∙ ap is_found t.2 in
      ap (all (λ at. is_found (p b at))) s.5 ∙ rw here (starts-stand n s.1 s.2 end (rw m at s.4))

  -- reading where they start, and then what stands there, is reading them
  pub starts-say : (value : Parsed A → A) → ((a : A) (e : ℕ) → value (found a e) ≡ a) → (n at : ℕ) → times n p b at ≡ mapped (map (λ at. value (p b at))) (times n (starting p) b at)
  starts-say value is = row-mapped (starting p) p (λ at. value (p b at)) b (λ at. by at (p b at) refl)
    where
      by : (at : ℕ) (r : Parsed A) → p b at ≡ r → r ≡ mapped (λ at. value (p b at)) (mapped (λ _. at) r)
      by at fault e = refl
      by at (found a end) e = ap (λ (x : A). found x end) (sym (ap value e ∙ is a end))

  -- a loop that notes them: one more, and all of them
  module _ (count i from : ℕ) (starts : List ℕ) {whole : Parsed (List ℕ)} (w : whole ≡ after (take i starts) (times (count - i) (starting p) b from)) where
    pub noted_more : (end : ℕ) → i < count → i < length starts → end_of (p b from) ≡ Some end →
        whole ≡ after (take (i + 1) (set starts i from)) (times (count - (i + 1)) (starting p) b end)
    noted_more end h k e =
        let q : take (i + 1) (set starts i from) ≡ take i starts ++ (from ∷ []) = rw (add-one, take-suc-set starts i from k) in
        let m : count - (i + 1) ≡ count - i - 1 = omega arith in
        w ∙ rw (q, m) (row_next (starting p) b (take i starts) (count - i) from end from (omega arith) (start-found from end e))

    pub noted-fault : i < count → end_of (p b from) ≡ None → whole ≡ fault
    noted-fault h e = w ∙ row-fault (starting p) b (take i starts) (count - i) from (omega arith) (ap (mapped (λ _. from)) (faulted (p b from) e))

    pub noted-all : i ≡ count → whole ≡ found (take count starts) from
    noted-all e = rw e at (w ∙ row-none (starting p) b (take i starts) (count - i) from (omega arith))
