-- The laws of `splice` and `Wrote`: a write that follows another, the turns of a loop that copies, and a write from the start. Assumes nothing.
use mathlib.Core.Path.{◌≡◌, refl, sym, ap, ◌∙◌, subst}
use mathlib.Core.Logic.{◌⊎◌, inl, inr, ⊎_elim}
use mathlib.Core.List.{List, [], ◌∷◌, ◌++◌}
use Prim.Native.Nat.{ℕ, suc, ◌+◌, ◌-◌, ◌≤◌, ◌<◌, min}
use native.Mathlib.Omega.{arith}
use native.Mathlib.Decide.{dec_lt}
use native.Mathlib.Nat.{add-zero, zero-add, add-suc, suc-add}
use native.Mathlib.Numerals.{add-one}
use lib.ListN.{length, get_or, set, take, drop, length-append, length-set, take-append-drop}
use lib.Seq.{sets, sets-eq, take-suc, take_all, length-take-le, set_out}
use borrow.Rule.Slice.PartMut.{put_mid}
use Rattle.std.proofs.lemmas.Slice.{put_mid-paste}
use Rattle.ack.specs.Splice.{splice, limit, Wrote}

pub lt_or_ge : (a b : ℕ) → (a < b) ⊎ (b ≤ a)
lt_or_ge a b = by-test (dec_lt a b)
  where
    by-test : Dec (a < b) → (a < b) ⊎ (b ≤ a)
    by-test (yes p) = inl p
    by-test (no p) = inr (omega arith)

-- ---- bytes stored
splice-length : (out : List ℕ) (at : ℕ) (bytes : List ℕ) → length (splice out at bytes) ≡ length out
unfolding splice
splice-length out at [] = refl
splice-length out at (b ∷ bytes) = splice-length (set out at b) (suc at) bytes ∙ length-set out at b

-- two writes, one after the other, are one write of the joined bytes
pub splice_join : (out : List ℕ) (at : ℕ) (xs ys : List ℕ) → splice (splice out at xs) (at + length xs) ys ≡ splice out at (xs ++ ys)
unfolding splice
splice_join out at [] ys = rw add-zero
splice_join out at (x ∷ xs) ys = rw (add-suc, ← suc-add) (splice_join (set out at x) (suc at) xs ys)

-- where the bytes fit, what stands before and after them is as it was
pub splice-fits : (out : List ℕ) (at : ℕ) (bytes : List ℕ) → at + length bytes ≤ length out → splice out at bytes ≡ take at out ++ bytes ++ drop (at + length bytes) out
unfolding splice
splice-fits out at bytes h = as_sets out at bytes ∙ sets-eq bytes out at h
  where
    as_sets : (out : List ℕ) (at : ℕ) (bytes : List ℕ) → splice out at bytes ≡ sets out at bytes
    as_sets out at [] = refl
    as_sets out at (b ∷ bytes) = as_sets (set out at b) (suc at) bytes

-- past the end nothing is stored
splice-past : (out : List ℕ) (at : ℕ) (bytes : List ℕ) → length out ≤ at → splice out at bytes ≡ out
unfolding splice
splice-past out at [] h = refl
splice-past out at (b ∷ bytes) h = rw (set_out out at b) (splice-past out (suc at) bytes (omega arith))

-- a counted position serves as well as the position itself
splice_advanced : (out : List ℕ) (at : ℕ) (bytes : List ℕ) → length out < limit → splice out (min at limit) bytes ≡ splice out at bytes
splice_advanced out at bytes h =
    ⊎_elim
    (λ near. let e : min at limit ≡ at = omega arith in rw e)
    (λ far.
    let e : min at limit ≡ limit = omega arith in
    rw (e, splice-past out limit bytes (omega arith), splice-past out at bytes (omega arith)))
    (lt_or_ge at limit)

-- ---- a loop that stores the bytes that fit, in order
module _ (o xs : List ℕ) (at : ℕ) where
  -- a turn
  pub splice_more : (out : List ℕ) (i : ℕ) → i < length xs → out ≡ splice o at (take i xs) → set out (at + i) (get_or xs i 0) ≡ splice o at (take (i + 1) xs)
  unfolding splice
  splice_more out i h e =
      let taken : length (take i xs) ≡ i = length-take-le i xs (omega arith) in
      rw (add-one, take-suc xs i 0, ← splice_join o at (take i xs) (get_or xs i 0 ∷ []), taken, e)

  -- after the last turn what is left lies past the end
  splice-rest : (n : ℕ) → n ≡ min (length xs) (length o - at) → splice o at (take n xs) ≡ splice o at xs
  splice-rest n fits =
      ⊎_elim
      (λ short.
      let taken : length (take n xs) ≡ n = length-take-le n xs (omega arith) in
      let past : length (splice o at (take n xs)) ≤ at + n = omega (arith, splice-length o at (take n xs)) in
      sym (splice-past (splice o at (take n xs)) (at + n) (drop n xs) past)
      ∙ ap (λ (k : ℕ). splice (splice o at (take n xs)) (at + k) (drop n xs)) (sym taken)
      ∙ splice_join o at (take n xs) (drop n xs)
      ∙ ap (splice o at) (take-append-drop n xs))
      (λ whole. ap (splice o at) (take_all n xs whole))
      (lt_or_ge n (length xs))

  pub wrote-front : {out : List ℕ} {next : ℕ} (n : ℕ) → length o < limit → n ≡ min (length xs) (length o - at) → out ≡ splice o at (take n xs) → next ≡ min (at + length xs) limit → Wrote o at xs out next
  wrote-front n room fits stored ends = record { room = room; holds = stored ∙ splice-rest n fits; ends = ends }

-- the same by one copy of what fits, or by none where nothing does
pub wrote_copied : (o xs ys : List ℕ) (at n next : ℕ) → length o < limit → 0 < n → n ≡ min (length xs) (length o - at) → ys ≡ take n xs → next ≡ min (at + length xs) limit → Wrote o at xs (put_mid at (at + n - at) o ys) next
wrote_copied o xs ys at n next room some fits e ends =
    let k : at + n - at ≡ n = omega arith in
    let long : length (take n xs) ≡ n = length-take-le n xs (omega arith) in
    wrote-front o xs at n room fits
    (put_mid-paste at (at + n - at) o ys (take n xs) n e (sym k) (sym long)
    ∙ ap (λ (l : List ℕ). take at o ++ l ++ drop (at + n) o) (take_all n (take n xs) (omega (arith, long)))
    ∙ ap (λ (j : ℕ). take at o ++ take n xs ++ drop (at + j) o) (sym long)
    ∙ sym (splice-fits o at (take n xs) (omega (arith, long))))
    ends

pub wrote_nowhere : (o xs : List ℕ) (at n next : ℕ) → length o < limit → n ≡ 0 → n ≡ min (length xs) (length o - at) → next ≡ min (at + length xs) limit → Wrote o at xs o next
unfolding splice
wrote_nowhere o xs at n next room none fits ends = wrote-front o xs at 0 room (omega arith) refl ends

-- ---- writes, one after the other
pub wrote-length : {o p xs : List ℕ} {a b : ℕ} → Wrote o a xs p b → length p ≡ length o
wrote-length {o} {xs = xs} {a} w = ap length w.holds ∙ splice-length o a xs

-- any two results that the contract of a writer allows are equal
pub wrote_once : {o p p' xs : List ℕ} {a b b' : ℕ} → Wrote o a xs p b → Wrote o a xs p' b' → (p ≡ p') × (b ≡ b')
wrote_once f g = (f.holds ∙ sym g.holds, f.ends ∙ sym g.ends)

pub wrote_none : (out : List ℕ) (at : ℕ) → length out < limit → Wrote out at [] out (min at limit)
unfolding splice
wrote_none out at h = record { room = h; holds = refl; ends = rw add-zero }

-- past the end it is counted alone
pub wrote-past : {o xs : List ℕ} {at next : ℕ} → length o < limit → length o ≤ at → next ≡ min (at + length xs) limit → Wrote o at xs o next
wrote-past {o} {xs} {at} room past e = record { room = room; holds = sym (splice-past o at xs past); ends = e }

-- the same, in the words of the code
pub wrote_over : (o xs : List ℕ) (at n next : ℕ) → length o < limit → length o ≤ at → n ≡ length xs → next ≡ min (at + n) limit → Wrote o at xs o next
wrote_over o xs at n next room past e f = wrote-past room past (f ∙ ap (λ (k : ℕ). min (at + k) limit) e)

-- the same bytes under another name
pub wrote_as : {o p xs ys : List ℕ} {a b : ℕ} → Wrote o a xs p b → xs ≡ ys → Wrote o a ys p b
wrote_as {o} {p} {a = a} {b} w e = subst (λ (l : List ℕ). Wrote o a l p b) e w

infixr 40 ◌then◌
pub ◌then◌ : {o p q xs ys : List ℕ} {a b c : ℕ} → Wrote o a xs p b → Wrote p b ys q c → Wrote o a (xs ++ ys) q c
◌then◌ {o} {p} {q} {xs} {ys} {a} {b} {c} f g = record {
  room = f.room;
  holds =
      g.holds
      ∙ ap (λ (n : ℕ). splice p n ys) f.ends
      ∙ splice_advanced p (a + length xs) ys g.room
      ∙ ap (λ (l : List ℕ). splice l (a + length xs) ys) f.holds
      ∙ splice_join o a xs ys;
  ends = simp length-append (omega (arith, f.ends, g.ends));
}

-- ---- a write from the start
-- where it fits, it stands at the start, and the rest is as it was
pub splice-at-start : (o xs : List ℕ) → length xs ≤ length o → splice o 0 xs ≡ xs ++ drop (length xs) o
splice-at-start o xs h = splice-fits o 0 xs (omega arith) ∙ rw zero-add

pub wrote-at-start : {o p xs : List ℕ} {n : ℕ} → Wrote o 0 xs p n → length xs ≤ length o → p ≡ xs ++ drop (length xs) o
wrote-at-start {o} {xs = xs} w h = w.holds ∙ splice-at-start o xs h
