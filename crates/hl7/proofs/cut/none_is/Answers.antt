-- `hl7::cut::none_is` meets its contract, by the invariant that stands beside this. Assumes nothing.
use mathlib.Core.Path.{sym, ◌∙◌}
use Rattle.hl7.specs.Bytes.{differs}
use Rattle.hl7.proofs.Comparing.{all-gathered, all-over}
use Rattle.hl7.proofs.cut.none_is.Goals as goal

pub loop-x-preserved : goal.loop-x-preserved
loop-x-preserved c =
    let args = c.args in
    c.loop-x.invariant ∙ all-gathered (differs args.d) args.v.now c.loop-x.x-index c.loop-x.none c.loop-x-test.true

pub returns : goal.returns
returns c =
    let args = c.args in
    sym (c.loop-x.invariant ∙ all-over (differs args.d) args.v.now c.loop-x.x-index c.loop-x.none c.loop-x-test.false)
