-- Laws of `specs/Shown.antt`: a line feed for each CR, in place; how long a text is, and which one is shown. Assumes nothing.
use mathlib.Core.Path.{◌≡◌, refl, sym, ap, ap₂, ◌∙◌}
use mathlib.Core.Bool.{Bool, true, false, cond}
use mathlib.Core.List.{List, ◌∷◌, [], ◌++◌, map, map-append, append_assoc, append-nil}
use Prim.Native.Nat.{ℕ, ◌+◌, ◌≤◌, ◌<◌, min}
use native.Mathlib.Numerals.{add-one}
use native.Mathlib.Omega.{arith}
use lib.Dec.{eqb}
use lib.ListN.{length, get_or, take, drop, set, length-append, length-map, length-take, drop_of_length-le}
use lib.Seq.{take_all, take-suc, take_at}
use Rattle.std.proofs.lemmas.List.{set_at, get_or_at, length-take-le}
use lib.Seq.{drop-cons}
use borrow.Author.Tests.{eq-eqb, ne_eqb}
use Rattle.hl7.specs.Refusals.{Told}
use Rattle.ack.specs.Splice.{splice, Wrote}
use Rattle.ack.proofs.Decimals.{decimal-short}
use Rattle.ack.proofs.Writing.{splice-at-start}
use Rattle.show.specs.Shown.{line_feed, line_feeds, refusal, refusal_room, printed_in, printed_length, Printed, shown}

-- ---- line feeds for CRs, in place: of a text the first i bytes have been turned
module _ (s : List ℕ) (i : ℕ) {now : List ℕ} (e : now ≡ map line_feed (take i s) ++ drop i s) where
  pub turned_more : {x : ℕ} → i < length s → x ≡ line_feed (get_or now i 0) → set now i x ≡ map line_feed (take (i + 1) s) ++ drop (i + 1) s
  turned_more {x} h f =
      let y = get_or s i 0 in
      let done = map line_feed (take i s) in
      let rest = drop (i + 1) s in
      let long : length done ≡ i = length-map (take i s) line_feed ∙ length-take-le i s (omega arith) in
      let here : now ≡ done ++ (y ∷ rest) = e ∙ ap (λ (l : List ℕ). done ++ l) (drop-cons s i 0 h ∙ ap (λ (n : ℕ). y ∷ drop n s) (sym (add-one i))) in
      let byte : get_or now i 0 ≡ y = ap (λ (l : List ℕ). get_or l i 0) here ∙ get_or_at done y rest 0 i long in
      let more : map line_feed (take (i + 1) s) ≡ done ++ (line_feed y ∷ []) = ap (map line_feed) (ap (λ (n : ℕ). take n s) (add-one i) ∙ take-suc s i 0 h) ∙ map-append line_feed (take i s) (y ∷ []) in
      ap (λ (l : List ℕ). set l i x) here
      ∙ set_at done y rest x i long
      ∙ ap (λ (z : ℕ). done ++ (z ∷ rest)) (f ∙ ap line_feed byte)
      ∙ sym (ap (λ (l : List ℕ). l ++ rest) more ∙ append_assoc done (line_feed y ∷ []) rest)

  pub turned_all : length s ≤ i → now ≡ line_feeds s
  unfolding line_feeds
  turned_all h =
      e
      ∙ ap₂ (λ (l r : List ℕ). map line_feed l ++ r) (take_all i s h) (drop_of_length-le s {i = i} h)
      ∙ append-nil (map line_feed s)

-- ---- texts
pub refusal-short : (number detail : ℕ) → length (refusal number detail) ≤ refusal_room
unfolding refusal
refusal-short number detail = simp length-append (omega (arith, decimal-short number, decimal-short detail))

-- ---- what is printed, in the words of the code
module _ (t : Told) {before after : List ℕ} {r : ℕ} where
  pub printed-ack : t.number ≡ 0 → (after ≡ line_feeds (take t.detail before) ++ drop t.detail before) × (r ≡ min t.detail (length before)) → Printed t before after r
  unfolding printed_in printed_length
  printed-ack e w = record { holds = rw (eq-eqb t.number 0 e) w.0; ends = rw (eq-eqb t.number 0 e) w.1 }

  pub printed-refusal : (t.number ≡ 0 → ⊥) → Wrote before 0 (refusal t.number t.detail) after r → Printed t before after r
  unfolding printed_in printed_length
  printed-refusal some w =
      record {
        holds = rw (ne_eqb t.number 0 some) w.holds;
        ends = rw (ne_eqb t.number 0 some) (omega (arith, w.ends, refusal-short t.number t.detail));
      }

-- any two results of printing are equal
pub printing_once : {t : Told} {before after after' : List ℕ} {r r' : ℕ} → Printed t before after r → Printed t before after' r' → (after ≡ after') × (r ≡ r')
printing_once p q = (p.holds ∙ sym q.holds, p.ends ∙ sym q.ends)

-- with room for a refusal, the text is what is shown
pub printed-shown : {t : Told} {before after : List ℕ} {r : ℕ} → Printed t before after r → refusal_room ≤ length before → take r after ≡ shown t before
unfolding printed_in printed_length shown line_feeds
printed-shown {t} {before} {after} {r} w room = rw (w.holds, w.ends) (by (eqb t.number 0))
  where
    text : List ℕ
    text = refusal t.number t.detail

    by : (b : Bool) → take (cond b (min t.detail (length before)) (length text)) (cond b (map line_feed (take t.detail before) ++ drop t.detail before) (splice before 0 text))
        ≡ cond b (map line_feed (take t.detail before)) text
    by true = take_at (map line_feed (take t.detail before)) (drop t.detail before) (min t.detail (length before)) (simp (length-map, length-take))
    by false = ap (take (length text)) (splice-at-start before text (omega (arith, refusal-short t.number t.detail))) ∙ take_at text _ _ refl
