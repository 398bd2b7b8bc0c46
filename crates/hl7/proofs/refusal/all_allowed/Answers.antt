-- `hl7::refusal::all_allowed` meets its contract, by the invariant that stands beside this. Assumes nothing.
use mathlib.Core.Path.{sym, ◌∙◌}
use Rattle.hl7.specs.Refusals.{allowed}
use Rattle.hl7.proofs.Comparing.{all-gathered, all-over}
use Rattle.hl7.proofs.refusal.all_allowed.Goals as goal

pub loop-x-preserved : goal.loop-x-preserved
loop-x-preserved c =
    let m = c.args.m.now in
    cc (all-gathered allowed m c.loop-x.x-index c.loop-x.every c.loop-x-test.true)

pub returns : goal.returns
returns c =
    let m = c.args.m.now in
    sym (c.loop-x.invariant ∙ all-over allowed m c.loop-x.x-index c.loop-x.every c.loop-x-test.false)
