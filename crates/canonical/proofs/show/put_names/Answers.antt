-- `canonical::show::put_names` meets its contract, by the invariant that stands beside this. Assumes nothing.
use native.Mathlib.Omega.{arith}
use Rattle.ack.proofs.Adding.{adds_as}
use Rattle.ack.proofs.Adding.{adding_more, adding_over}
use Rattle.canonical.proofs.PutSets.{names-all, names_more, names-over}
use Rattle.canonical.proofs.show.put_names.Goals as goal

pub loop-i-init : goal.loop-i-init
loop-i-init c = λ after w. w

pub loop-i-preserved : goal.loop-i-preserved
loop-i-preserved c = adding_more c.loop-i.invariant (names_more c.args.key.now c.args.count c.loop-i.i (omega arith)) c.put_named.ensures

pub returns : goal.returns
returns c =
    adds_as (adding_over c.loop-i.invariant (names-over c.args.key.now c.args.count c.loop-i.i (omega arith)))
    (names-all c.args.key.now c.args.count)
