-- `difference::counterpart::number_of` meets its contract, by the invariant that stands beside this. Assumes nothing.
use mathlib.Core.Path.{refl, sym, ap, ◌∙◌}
use Prim.Native.Nat.{ℕ, ◌-◌}
use native.Mathlib.Numerals.{add-one}
use native.Mathlib.Omega.{arith}
use Rattle.hl7.proofs.Comparing.{counted_test}
use Rattle.difference.proofs.Counting.{number_stop, number_more, number-over}
use Rattle.difference.proofs.counterpart.number_of.Goals as goal

pub loop-i-init : goal.loop-i-init
loop-i-init c = refl

pub returns-then-here-left : goal.returns-then-here-left
returns-then-here-left c =
    let stop = number_stop c.args.noted.now c.args.spot c.loop-i.i c.loop-i.left (omega arith) c.if-here-left.true in
    record { is = sym (c.loop-i.invariant ∙ stop ∙ add-one c.loop-i.i); inside = omega arith }

pub loop-i-preserved : goal.loop-i-preserved
loop-i-preserved c =
    let later = c.saturating_sub-left.ensures ∙ ap (λ (n : ℕ). c.loop-i.left - n) (counted_test _ _ c.from.ensures) in
    let more = number_more c.args.noted.now c.args.spot c.loop-i.i c.loop-i.left (omega arith) c.if-here-left.false later in
    c.loop-i.invariant ∙ more

pub returns-clause-is : goal.returns-clause-is
returns-clause-is c = sym (c.loop-i.invariant ∙ number-over c.args.noted.now c.args.spot c.loop-i.i c.loop-i.left (omega arith))
