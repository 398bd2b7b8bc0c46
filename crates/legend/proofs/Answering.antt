-- Laws of what asking for a legend answers. Assumes nothing.
use mathlib.Core.Path.{◌≡◌}
use mathlib.Core.List.{List}
use Prim.Native.Nat.{ℕ}
use native.Mathlib.Omega.{arith}
use Rattle.booktext.specs.Refusals.{refusal, written}
use Rattle.booktext.specs.Standing.{MakesBy}
use Rattle.booktext.specs.Faults.{Told}
use Rattle.booktext.proofs.Bounds.{Packs, packs, refusal-row}
use Rattle.booktext.proofs.Compiling.{refused_as, answered_as}
use Rattle.legend.specs.Legend.{legend, legend_of}
use Rattle.legend.proofs.Sizes.{legend-short}

module _ (t place : List ℕ) {made : Told} (m : MakesBy (refusal t) t made place) where
  pub legend-refused : (out : List ℕ) → (made.number ≡ 0 → ⊥) → (made ≡ (legend_of t out).told) × (out ≡ (legend_of t out).output)
  unfolding legend_of
  legend-refused out n = refused_as t place m (legend t) out n

  pub legend-answered : made.number ≡ 0 → (out : List ℕ) {r : Told} {after : List ℕ} → (r ≡ (written (legend t) out).told) × (after ≡ (written (legend t) out).output) → (r ≡ (legend_of t out).told) × (after ≡ (legend_of t out).output)
  unfolding legend_of
  legend-answered h out w = rw (answered_as t place m h (legend t) out) w

-- what is told fits one number of 64 bits, and can be had back from it
pub legend_packs : (t out : List ℕ) → Packs (legend_of t out).told
unfolding legend_of
legend_packs t out = packs (legend t) out (refusal-row t) (λ z. omega (arith, legend-short t z))
