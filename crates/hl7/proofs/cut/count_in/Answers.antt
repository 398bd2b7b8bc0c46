-- `hl7::cut::count_in` meets its contract, by the invariant that stands beside this. Assumes nothing.
use native.Mathlib.Omega.{arith}
use Rattle.hl7.proofs.Comparing.{counted_test, occurs_more, occurs-none, picked_most}
use Rattle.hl7.proofs.cut.count_in.Goals as goal

pub loop-x-preserved : goal.loop-x-preserved
loop-x-preserved c =
    let args = c.args in
    let one = counted_test _ _ c.from-n.ensures in
    (omega (arith, picked_most _ 1 0 _ one), omega (arith, one, occurs_more args.d args.v.now c.loop-x.x-index c.loop-x-test.true))

pub returns : goal.returns
returns c =
    let args = c.args in
    omega (arith, occurs-none args.d args.v.now c.loop-x.x-index c.loop-x-test.false)
