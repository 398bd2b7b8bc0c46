-- `canonical::show::is_in` meets its contract, by the invariant that stands beside this. Assumes nothing.
use mathlib.Core.Path.{sym, ◌∙◌}
use native.Mathlib.Omega.{arith}
use Rattle.canonical.proofs.PutRules.{in_more, in_over}
use Rattle.canonical.proofs.show.is_in.Goals as goal

pub loop-spot-preserved : goal.loop-spot-preserved
loop-spot-preserved c = c.loop-spot.invariant ∙ in_more c.args.spots.now c.args.x _ c.loop-spot.any (omega arith)

pub returns : goal.returns
returns c = sym (c.loop-spot.invariant ∙ in_over c.args.spots.now c.args.x _ c.loop-spot.any (omega arith))
