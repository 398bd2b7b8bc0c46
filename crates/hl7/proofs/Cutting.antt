-- Laws of `specs/Cut.antt`: what one more byte does to a cut, where its first part ends, and what is left after it.
-- Assumes nothing.
use mathlib.Core.Path.{◌≡◌, refl, sym, ap, ap₂, subst⁻¹, ◌∙◌}
use mathlib.Core.Bool.{Bool, true, false, cond, true≢false}
use mathlib.Core.List.{List, [], ◌∷◌, ◌++◌}
use Prim.Native.Nat.{ℕ, zero, suc, ◌+◌, ◌-◌, ◌≤◌, ◌<◌}
use native.Mathlib.Omega.{arith}
use native.Mathlib.Nat.{add-zero, add-sub_cancel_left}
use native.Mathlib.Decide.{dec_lt, ℕ_discrete}
use native.Mathlib.Numerals.{add-one, unary_clauses}
use lib.ListN.{length, get_or, take, drop, length-append, length-take, length-drop, drop_of_length-le}
use lib.Seq.{drop-cons, drop-drop, drop_at, take_all, take_at, take-take, take-nil}
use lib.Dec.{eqb}
use borrow.Author.Tests.{eq-eqb, ne_eqb, eqb-true, not-true}
use Rattle.hl7.specs.Cut.{ahead, cut, part_at, end_from, start_at, Piece, piece_at, missing}
use Rattle.hl7.specs.Place.{inside}
use Rattle.hl7.specs.Spans.{between, piece_from, occurrences, Spans}
use Rattle.hl7.specs.declared.cut.Span.{Span}
use Rattle.hl7.specs.Bytes.{all, differs, begins}
use Rattle.hl7.proofs.Comparing.{none_of, rest_at, and_both, all_take, all_drop}

-- ---- one byte more
pub cut_delimiter : (d x : ℕ) (s : List ℕ) → x ≡ d → cut d (x ∷ s) ≡ [] ∷ cut d s
unfolding cut ahead
cut_delimiter d x s e = rw (eq-eqb x d e)

pub cut_other : (d x : ℕ) (s : List ℕ) → (x ≡ d → ⊥) → cut d (x ∷ s) ≡ (x ∷ part_at (cut d s) 0) ∷ drop 1 (cut d s)
unfolding cut ahead
cut_other d x s n = rw (ne_eqb x d n)

-- ---- where the part that begins at i ends
pub end_here : (d : ℕ) (s : List ℕ) (i : ℕ) → i < length s → get_or s i 0 ≡ d → end_from d s i ≡ i
end_here d s i h e = rw (drop-cons s i 0 h, cut_delimiter d (get_or s i 0) (drop (suc i) s) e) (omega arith)

pub end_later : (d : ℕ) (s : List ℕ) (i : ℕ) → i < length s → (get_or s i 0 ≡ d → ⊥) → end_from d s i ≡ end_from d s (i + 1)
end_later d s i h n = rw (add-one, drop-cons s i 0 h, cut_other d (get_or s i 0) (drop (suc i) s) n) (omega arith)

pub end_past : (d : ℕ) (s : List ℕ) (i : ℕ) → length s ≤ i → end_from d s i ≡ i
unfolding cut
end_past d s i h = rw (drop_of_length-le s h) (omega arith)

-- ---- the first part and the rest
abbrev pub first : ℕ → List ℕ → List ℕ
first d s = part_at (cut d s) 0

-- a cut has at least one part
pub cut-some : (d : ℕ) (s : List ℕ) → cut d s ≡ first d s ∷ drop 1 (cut d s)
unfolding cut ahead
cut-some d [] = refl
cut-some d (x ∷ s) = some_of (eqb x d) x (cut d s)
  where
    some_of : (b : Bool) (x : ℕ) (ps : List (List ℕ)) → ahead b x ps ≡ part_at (ahead b x ps) 0 ∷ drop 1 (ahead b x ps)
    some_of true x ps = refl
    some_of false x ps = refl

abbrev Ends : ℕ → List ℕ → List (List ℕ) → Type 0
Ends d s ps = length (part_at ps 0) < length s → ps ≡ part_at ps 0 ∷ cut d (drop (suc (length (part_at ps 0))) s)

-- the first part ends before the end: a delimiter stands there, and the other parts are those of what follows it
pub cut_more : (d : ℕ) (s : List ℕ) → Ends d s (cut d s)
unfolding cut ahead
cut_more d [] h = absurd (omega arith)
cut_more d (x ∷ s) h = more_of (eqb x d) (cut_more d s) h
  where
    more_of : (b : Bool) → Ends d s (cut d s) → Ends d (x ∷ s) (ahead b x (cut d s))
    more_of true ih h = refl
    more_of false ih h = ap (λ (ps : List (List ℕ)). (x ∷ part_at ps 0) ∷ drop 1 ps) (ih (omega arith))

abbrev Whole : List ℕ → List (List ℕ) → Type 0
Whole s ps = length s ≤ length (part_at ps 0) → ps ≡ s ∷ []

-- the first part ends at the end: it is all there is
pub cut_last : (d : ℕ) (s : List ℕ) → Whole s (cut d s)
unfolding cut ahead
cut_last d [] h = refl
cut_last d (x ∷ s) h = last_of (eqb x d) (cut_last d s) h
  where
    last_of : (b : Bool) → Whole s (cut d s) → Whole (x ∷ s) (ahead b x (cut d s))
    last_of true ih h = absurd (omega arith)
    last_of false ih h = ap (λ (ps : List (List ℕ)). (x ∷ part_at ps 0) ∷ drop 1 ps) (ih (omega arith))

-- the first part is no longer than the whole
pub first-within : (d : ℕ) (s : List ℕ) → length (first d s) ≤ length s
unfolding cut ahead
first-within d [] = omega arith
first-within d (x ∷ s) = within_of (eqb x d) (first-within d s)
  where
    within_of : (b : Bool) → length (first d s) ≤ length s → length (part_at (ahead b x (cut d s)) 0) ≤ length (x ∷ s)
    within_of true ih = omega arith
    within_of false ih = omega arith

-- the first part is a front of the whole
pub first-front : (d : ℕ) (s : List ℕ) → first d s ≡ take (length (first d s)) s
unfolding cut ahead
first-front d [] = refl
first-front d (x ∷ s) = front_of (eqb x d) (first-front d s)
  where
    front_of : (b : Bool) → first d s ≡ take (length (first d s)) s → part_at (ahead b x (cut d s)) 0 ≡ take (length (part_at (ahead b x (cut d s)) 0)) (x ∷ s)
    front_of true ih = refl
    front_of false ih = ap (λ (l : List ℕ). x ∷ l) ih

-- what the whole begins with, the first part begins with too, where no delimiter is in that
pub first-begins : (d : ℕ) (p s : List ℕ) → all (differs d) p ≡ true → begins p s ≡ true → begins p (first d s) ≡ true
unfolding all begins
first-begins d [] s e b = refl
first-begins d (x ∷ p) [] e b = absurd (true≢false (sym b))
first-begins d (x ∷ p) (y ∷ s) e b =
    let kinds = and_both (differs d x) (all (differs d) p) e in
    let both = and_both (eqb y x) (begins p s) b in
    let other : y ≡ d → ⊥ = λ same. true≢false (sym (eq-eqb x d (sym (eqb-true y x both.0) ∙ same)) ∙ not-true _ kinds.0) in
    rw (cut_other d y s other, both.0) (first-begins d p s kinds.1 both.1)

-- ---- where the parts start
pub start_first : (ps : List (List ℕ)) → start_at ps 0 ≡ 0
unfolding start_at
start_first [] = refl
start_first (p ∷ ps) = refl

pub start-next : (d : ℕ) (p s : List ℕ) (k : ℕ) → start_at (p ∷ cut d s) (suc k) ≡ length p + 1 + start_at (cut d s) k
unfolding start_at
start-next d p s k = rw (cut-some d s)

-- ---- the same at a position of s
pub end_within : (d : ℕ) (s : List ℕ) (at : ℕ) → at ≤ length s → end_from d s at ≤ length s
end_within d s at h = omega (arith, first-within d (drop at s), length-drop at s)

pub parts_more : (d : ℕ) (s : List ℕ) (at : ℕ) → end_from d s at < length s → cut d (drop at s) ≡ first d (drop at s) ∷ cut d (drop (end_from d s at + 1) s)
parts_more d s at h =
    let n = length (first d (drop at s)) in
    let inside : n < length (drop at s) = omega (arith, length-drop at s) in
    let past : at + suc n ≡ at + n + 1 = omega arith in
    rw (← past, ← drop-drop (suc n) at s) (cut_more d (drop at s) inside)

pub parts_last : (d : ℕ) (s : List ℕ) (at : ℕ) → length s ≤ end_from d s at → cut d (drop at s) ≡ drop at s ∷ []
parts_last d s at h = cut_last d (drop at s) (omega (arith, length-drop at s))

pub piece_eq : {a b : ℕ} {p q : List ℕ} → a ≡ b → p ≡ q → ◌≡◌ {A = Piece} (record { start = a; bytes = p }) (record { start = b; bytes = q })
piece_eq e f i = record { start = e i; bytes = f i }

pub piece_from-start : (d : ℕ) (s : List ℕ) (k : ℕ) → piece_at (cut d s) k ≡ piece_from d s 0 k
piece_from-start d s k = piece_eq (omega arith) refl

-- the part that begins here runs to its end
pub first-at : (d : ℕ) (s : List ℕ) (at : ℕ) → first d (drop at s) ≡ take (end_from d s at - at) (drop at s)
first-at d s at = rw (add-sub_cancel_left at (length (first d (drop at s)))) (first-front d (drop at s))

-- The piece asked for, by what the code has tested: `end` is what `find` answered from `at`.
module _ (d : ℕ) (s : List ℕ) (at : ℕ) {k end : ℕ} (found : end ≡ end_from d s at) where
  -- it is the one that begins here
  pub piece_here : k ≤ 0 → piece_from d s at k ≡ record { start = at; bytes = take (end - at) (drop at s) }
  piece_here h =
      let none_left : k ≡ 0 = omega arith in
      ap (piece_from d s at) none_left ∙ piece_eq (rw (start_first (cut d (drop at s))) (omega arith)) (rw found (first-at d s at))

  -- it is a later one, and a delimiter stands at the end of this: it is the one before in what follows that
  pub piece_next : 0 < k → end < length s → piece_from d s at k ≡ piece_from d s (end + 1) (k - 1)
  piece_next h inside =
      let one_more : k ≡ suc (k - 1) = omega arith in
      let parts = parts_more d s at (omega arith) in
      ap (piece_from d s at) one_more
      ∙ rw found
      (piece_eq
      (ap (λ (ps : List (List ℕ)). at + start_at ps (suc (k - 1))) parts ∙ rw (start-next d (first d (drop at s)) (drop (end_from d s at + 1) s) (k - 1)) (omega arith))
      (ap (λ (ps : List (List ℕ)). part_at ps (suc (k - 1))) parts))

  -- it is a later one, and none follows
  pub piece_none : 0 < k → at ≤ length s → length s ≤ end → piece_from d s at k ≡ missing s
  unfolding start_at
  piece_none h within last =
      let one_more : k ≡ suc (k - 1) = omega arith in
      let alone = parts_last d s at (omega arith) in
      ap (piece_from d s at) one_more ∙ piece_eq (rw alone (omega (arith, length-drop at s))) (rw alone)

-- ---- a block that comes off what is left at `at`
module _ (s block rest : List ℕ) (at n : ℕ) (left : drop at s ≡ block ++ rest) (size : length block ≡ n) where
  pub block_at : between s at (at + n) ≡ block
  block_at = rw (add-sub_cancel_left at n, left) (take_at block rest n size)

  pub block-rest : rest ≡ drop (at + n) s
  block-rest = sym (drop_at block rest n size) ∙ ap (drop n) (sym left) ∙ drop-drop n at s

  pub block_within : 0 < n → at + n ≤ length s
  block_within h = omega (arith, ap length left, length-append block rest, length-drop at s, size)

-- ---- block by block: what the bytes of a block say of the part that begins at i, or of a later one
between_more : (s : List ℕ) (i n : ℕ) → i + suc n ≤ length s → between s i (i + suc n) ≡ get_or s i 0 ∷ between s (i + 1) (i + 1 + n)
between_more s i n h =
    let size : i + suc n - i ≡ suc n = omega arith in
    let rest : i + 1 + n - (i + 1) ≡ n = omega arith in
    rw (size, rest, rest_at s i (omega arith))

pub end_clear : (d : ℕ) (s : List ℕ) (n i : ℕ) → i + n ≤ length s → all (differs d) (between s i (i + n)) ≡ true → end_from d s i ≡ end_from d s (i + n)
unfolding all
end_clear d s zero i h e = ap (end_from d s) (sym (add-zero i))
end_clear d s (suc n) i h e =
    let both = and_both (differs d (get_or s i 0)) (all (differs d) (between s (i + 1) (i + 1 + n))) (ap (all (differs d)) (sym (between_more s i n h)) ∙ e) in
    let past : i + 1 + n ≡ i + suc n = omega arith in
    end_later d s i (omega arith) (λ same. true≢false (sym (eq-eqb (get_or s i 0) d same) ∙ not-true _ both.0))
    ∙ end_clear d s n (i + 1) (omega arith) both.1 ∙ ap (end_from d s) past

-- where no byte is d, every part ends at the end
pub end_none : (d : ℕ) (s : List ℕ) (from : ℕ) → all (differs d) s ≡ true → from ≤ length s → end_from d s from ≡ length s
end_none d s from e h =
    let all-of-it : from + (length s - from) ≡ length s = omega arith in
    end_clear d s (length s - from) from (omega arith) (all_take (differs d) (from + (length s - from) - from) (drop from s) (all_drop (differs d) from s e)) ∙ ap (end_from d s) all-of-it ∙ end_past d s (length s) (omega arith)

start-ahead : (x : ℕ) (p : List ℕ) (ps : List (List ℕ)) (k : ℕ) → start_at ((x ∷ p) ∷ ps) (suc k) ≡ 1 + start_at (p ∷ ps) (suc k)
unfolding start_at
start-ahead x p [] k = omega arith
start-ahead x p (q ∷ ps) k = omega arith

-- a later piece does not care for a byte that is no delimiter
piece_later : (d : ℕ) (s : List ℕ) (i k : ℕ) → i < length s → (get_or s i 0 ≡ d → ⊥) → 0 < k → piece_from d s i k ≡ piece_from d s (i + 1) k
piece_later d s i k h other some =
    let ps = cut d (drop (i + 1) s) in
    let more : k ≡ suc (k - 1) = omega arith in
    let joined : cut d (drop i s) ≡ (get_or s i 0 ∷ part_at ps 0) ∷ drop 1 ps = ap (cut d) (rest_at s i h) ∙ cut_other d (get_or s i 0) (drop (i + 1) s) other in
    let parts : ps ≡ part_at ps 0 ∷ drop 1 ps = cut-some d (drop (i + 1) s) in
    let starts : start_at (cut d (drop i s)) (suc (k - 1)) ≡ 1 + start_at ps (suc (k - 1)) = ap (λ (l : List (List ℕ)). start_at l (suc (k - 1))) joined ∙ start-ahead (get_or s i 0) (part_at ps 0) (drop 1 ps) (k - 1) ∙ ap (λ (l : List (List ℕ)). 1 + start_at l (suc (k - 1))) (sym parts) in
    ap (piece_from d s i) more
    ∙ piece_eq (omega (arith, starts)) (ap (λ (l : List (List ℕ)). part_at l (suc (k - 1))) joined ∙ ap (λ (l : List (List ℕ)). part_at l (suc (k - 1))) (sym parts))
    ∙ ap (piece_from d s (i + 1)) (sym more)

-- nor for a block that ends before it begins: c is how many delimiters the block has
pub piece_past : (d : ℕ) (s : List ℕ) (n i k c : ℕ) → i + n ≤ length s → c ≡ occurrences d (between s i (i + n)) → c < k → piece_from d s i k ≡ piece_from d s (i + n) (k - c)
unfolding occurrences
piece_past d s zero i k c h e few =
    let size : i + 0 - i ≡ 0 = omega arith in
    let none : c ≡ 0 = e ∙ ap (λ (m : ℕ). occurrences d (take m (drop i s))) size in
    let same : k ≡ k - c = omega arith in
    ap₂ (piece_from d s) (sym (add-zero i)) same
piece_past d s (suc n) i k c h e few = by (ℕ_discrete (get_or s i 0) d) (piece_past d s n (i + 1))
  where
    rest : ℕ
    rest = occurrences d (between s (i + 1) (i + 1 + n))

    counted : c ≡ cond (eqb (get_or s i 0) d) 1 0 + rest
    counted = e ∙ ap (occurrences d) (between_more s i n h)

    past : i + 1 + n ≡ i + suc n
    past = omega arith

    by : Dec (get_or s i 0 ≡ d) → ((k c : ℕ) → i + 1 + n ≤ length s → c ≡ rest → c < k → piece_from d s (i + 1) k ≡ piece_from d s (i + 1 + n) (k - c)) → piece_from d s i k ≡ piece_from d s (i + suc n) (k - c)
    by (yes here) ih =
        let one : c ≡ 1 + rest = counted ∙ rw (eq-eqb (get_or s i 0) d here) in
        let left : k - 1 - rest ≡ k - c = omega arith in
        piece_next d s i (sym (end_here d s i (omega arith) here)) (omega arith) (omega arith) ∙ ih (k - 1) rest (omega arith) refl (omega arith) ∙ ap₂ (piece_from d s) past left
    by (no other) ih =
        let none : c ≡ rest = counted ∙ rw (ne_eqb (get_or s i 0) d other) (omega arith) in
        piece_later d s i k (omega arith) other (omega arith) ∙ ih k c (omega arith) none few ∙ ap (λ (at : ℕ). piece_from d s at (k - c)) past

-- ---- `start_at` is right: a piece's bytes stand in s where it says
abbrev pub Stands : List ℕ → Piece → Type 0
Stands s p = take (length p.bytes) (drop p.start s) ≡ p.bytes

stands_from : (d : ℕ) (s : List ℕ) (k at : ℕ) → at ≤ length s → Stands s (piece_from d s at k)
stands_from d s zero at h = rw (start_first (cut d (drop at s)), add-zero) (sym (first-front d (drop at s)))
stands_from d s (suc k) at h = by_end (dec_lt (end_from d s at) (length s)) (stands_from d s k (end_from d s at + 1))
  where
    by_end : Dec (end_from d s at < length s) → (end_from d s at + 1 ≤ length s → Stands s (piece_from d s (end_from d s at + 1) k)) → Stands s (piece_from d s at (suc k))
    by_end (yes l) ih = subst⁻¹ (Stands s) (piece_next d s at refl (omega arith) l ∙ ap (piece_from d s (end_from d s at + 1)) (omega arith)) (ih (omega arith))
    by_end (no l) ih = subst⁻¹ (Stands s) (piece_none d s at refl (omega arith) h (omega arith)) refl

pub piece_stands : (d : ℕ) (s : List ℕ) (k : ℕ) → Stands s (piece_at (cut d s) k)
piece_stands d s k = subst⁻¹ (Stands s) (piece_from-start d s k) (stands_from d s k 0 (omega arith))

-- what stands in s is no longer than s
pub stands-short : (s : List ℕ) (p : Piece) → Stands s p → length p.bytes ≤ length s
stands-short s p e = omega (arith, ap length e, length-take (length p.bytes) (drop p.start s), length-drop p.start s)

pub part-short : (d : ℕ) (s : List ℕ) (k : ℕ) → length (part_at (cut d s) k) ≤ length s
part-short d s k = stands-short s (piece_at (cut d s) k) (piece_stands d s k)

-- there is at most one part more than bytes
pub cut-few : (d : ℕ) (s : List ℕ) → length (cut d s) ≤ length s + 1
unfolding cut ahead
cut-few d [] = omega arith
cut-few d (x ∷ s) = by (eqb x d) (cut-few d s)
  where
    by : (b : Bool) → length (cut d s) ≤ length s + 1 → length (ahead b x (cut d s)) ≤ length (x ∷ s) + 1
    by true ih = omega arith
    by false ih = omega (arith, length-drop 1 (cut d s))

-- ---- a part that is found by where it starts and ends
pub spans_as : {s : List ℕ} {r : Span} {p q : Piece} → p ≡ q → Spans s q r → Spans s p r
spans_as {s} {r} e l = subst⁻¹ (λ (x : Piece). Spans s x r) e l

-- the piece from one position to another
pub spans_between : (s : List ℕ) (start end : ℕ) → start ≤ end → end ≤ length s → Spans s (record { start = start; bytes = between s start end }) (record { start = start; end = end })
spans_between s start end f i = record { start = refl; bytes = refl; forward = f; inside = i }

pub spans_length : {s : List ℕ} {p : Piece} {r : Span} → Spans s p r → length (between s r.start r.end) ≡ r.end - r.start
spans_length a = simp (length-take, length-drop) (omega (arith, a.forward, a.inside))

-- what is missing, at the end
pub spans_missing : (s : List ℕ) → Spans s (missing s) (record { start = length s; end = length s })
spans_missing s =
    record {
      start = refl;
      bytes = none_of _ (simp (length-take, length-drop) (omega arith));
      forward = omega arith;
      inside = omega arith;
    }

-- all of it
pub spans_whole : (s : List ℕ) → Spans s (record { start = 0; bytes = s }) (record { start = 0; end = length s })
spans_whole s = record { start = refl; bytes = take_all (length s - 0) s (omega arith); forward = omega arith; inside = omega arith }

-- a part of a part
drop-take : (b n : ℕ) (l : List ℕ) → drop b (take n l) ≡ take (n - b) (drop b l)
drop-take zero n l = simp unary_clauses
drop-take (suc b) zero l = let none : 0 - suc b ≡ 0 = omega arith in sym (ap (λ (k : ℕ). take k (drop (suc b) l)) none)
drop-take (suc b) (suc n) [] = sym (take-nil (suc n - suc b))
drop-take (suc b) (suc n) (x ∷ l) = let size : n - b ≡ suc n - suc b = omega arith in drop-take b n l ∙ ap (λ (k : ℕ). take k (drop b l)) size

pub between-inside : (s : List ℕ) (a e b f : ℕ) → a + f ≤ e → between (between s a e) b f ≡ between s (a + b) (a + f)
between-inside s a e b f h =
    let size : a + f - (a + b) ≡ f - b = omega arith in
    rw (drop-take b (e - a) (drop a s), take-take (f - b) (e - a - b) (drop b (drop a s)) (omega arith), drop-drop b a s, size)

module _ {s : List ℕ} {outer inner : Span} {p : Piece} (f : List ℕ → Piece) (o : Spans s p outer) (i : Spans (between s outer.start outer.end) (f (between s outer.start outer.end)) inner) where
  spans_fit : (inner.start ≤ inner.end) × (outer.start + inner.end ≤ outer.end)
  spans_fit = (i.forward, omega (arith, spans_length o, i.inside, o.forward))

  pub spans_inside : {r : Span} → (r.start ≡ outer.start + inner.start) × (r.end ≡ outer.start + inner.end) → Spans s (inside p f) r
  spans_inside {r} is =
      record {
        start = is.0 ∙ ap₂ ◌+◌ o.start (i.start ∙ ap (λ (l : List ℕ). (f l).start) o.bytes);
        bytes = ap₂ (between s) is.0 is.1 ∙ sym (between-inside s outer.start outer.end inner.start inner.end spans_fit.1) ∙ i.bytes ∙ ap (λ (l : List ℕ). (f l).bytes) o.bytes;
        forward = omega (arith, is.0, is.1, i.forward);
        inside = omega (arith, is.1, o.inside, spans_fit.1);
      }

-- a span is fixed by the piece
pub spans_one : {s : List ℕ} {p : Piece} {r q : Span} → Spans s p r → Spans s p q → r ≡ q
spans_one {s} {p} {r} {q} a b =
    let ends : r.end ≡ q.end = omega (arith, spans_length a, spans_length b, ap length a.bytes, ap length b.bytes, a.start, b.start, a.forward, b.forward) in
    λ i. record { start = (a.start ∙ sym b.start) i; end = ends i }
