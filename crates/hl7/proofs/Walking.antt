-- Laws of `parts_from`: the first of the parts from a position on, and those after it. Assumes nothing.
use mathlib.Core.Path.{◌≡◌, refl, sym, ap, ◌∙◌}
use mathlib.Core.List.{List, [], ◌∷◌}
use mathlib.Core.Logic.{⊎_elim}
use Prim.Native.Nat.{ℕ, zero, suc, ◌+◌, ◌-◌, ◌≤◌, ◌<◌}
use native.Mathlib.Omega.{arith}
use native.Mathlib.Nat.{eq-or-lt_of_le}
use lib.ListN.{length, take, drop}
use borrow.Author.Tests.{le-leb, lt-leb}
use Rattle.hl7.specs.Spans.{parts_from}
use Rattle.hl7.specs.Cut.{cut, part_at, end_from, but_last}
use Rattle.hl7.proofs.Cutting.{first, first-at, cut-some, parts_more, parts_last, end_within}

pub parts_start : (d : ℕ) (s : List ℕ) → parts_from d s 0 ≡ cut d s
unfolding parts_from
parts_start d s = simp (le-leb 0 (length s) (omega arith))

pub parts_done : (d : ℕ) (s : List ℕ) (at : ℕ) → length s < at → parts_from d s at ≡ []
unfolding parts_from
parts_done d s at h = simp (lt-leb at (length s) h)

parts_in : (d : ℕ) (s : List ℕ) (at : ℕ) → at ≤ length s → parts_from d s at ≡ cut d (drop at s)
unfolding parts_from
parts_in d s at h = simp (le-leb at (length s) h)

-- the first part, and those after it
pub parts_step : (d : ℕ) (s : List ℕ) (at : ℕ) → at ≤ length s → parts_from d s at ≡ take (end_from d s at - at) (drop at s) ∷ parts_from d s (end_from d s at + 1)
parts_step d s at h =
    ⊎_elim
    (λ e.
    let all : cut d (drop at s) ≡ drop at s ∷ [] = parts_last d s at (omega arith) in
    rw (parts_in d s at h, parts_done d s (end_from d s at + 1) (omega arith), ← first-at d s at)
    (all ∙ ap (λ (ps : List (List ℕ)). part_at ps 0 ∷ []) (sym all)))
    (λ l. rw (parts_in d s at h, parts_in d s (end_from d s at + 1) (omega arith), ← first-at d s at) (parts_more d s at l))
    (eq-or-lt_of_le (end_within d s at h))

-- ---- the parts that run to a delimiter
pub ended_step : (d : ℕ) (s : List ℕ) (at : ℕ) → end_from d s at < length s → but_last (cut d (drop at s)) ≡ take (end_from d s at - at) (drop at s) ∷ but_last (cut d (drop (end_from d s at + 1) s))
unfolding but_last
ended_step d s at h = rw (parts_more d s at h, ← first-at d s at) (past (first d (drop at s)) (drop (end_from d s at + 1) s))
  where
    past : (p t : List ℕ) → but_last (p ∷ cut d t) ≡ p ∷ but_last (cut d t)
    past p t = rw (cut-some d t)

pub ended_stop : (d : ℕ) (s : List ℕ) (at : ℕ) → length s ≤ end_from d s at → but_last (cut d (drop at s)) ≡ []
unfolding but_last
ended_stop d s at h = rw (parts_last d s at h)

-- where the last part is empty, as in a message that ends with a CR, looking a segment up may forget that it is no segment
pub ended_same : (ps : List (List ℕ)) (k : ℕ) → part_at ps (length (but_last ps)) ≡ [] → part_at (but_last ps) k ≡ part_at ps k
unfolding but_last
ended_same [] k e = refl
ended_same (p ∷ []) zero e = sym e
ended_same (p ∷ []) (suc k) e = refl
ended_same (p ∷ (q ∷ ps)) zero e = refl
ended_same (p ∷ (q ∷ ps)) (suc k) e = ended_same (q ∷ ps) k e

-- they are fewer than all parts, and each is one of those
pub ended-few : (ps : List (List ℕ)) → length (but_last ps) ≤ length ps - 1
unfolding but_last
ended-few [] = omega arith
ended-few (p ∷ []) = omega arith
ended-few (p ∷ (q ∷ ps)) = omega (arith, ended-few (q ∷ ps))

pub ended-short : (ps : List (List ℕ)) (k : ℕ) → length (part_at (but_last ps) k) ≤ length (part_at ps k)
unfolding but_last
ended-short [] k = omega arith
ended-short (p ∷ []) k = omega arith
ended-short (p ∷ (q ∷ ps)) zero = omega arith
ended-short (p ∷ (q ∷ ps)) (suc k) = ended-short (q ∷ ps) k
