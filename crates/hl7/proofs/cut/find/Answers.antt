-- `hl7::cut::find` meets its contract, by the invariant that stands beside this. Assumes nothing.
use mathlib.Core.Path.{◌≡◌, sym, ◌∙◌}
use native.Mathlib.Omega.{arith}
use Rattle.hl7.proofs.Cutting.{end_here, end_later, end_past}
use Rattle.hl7.proofs.cut.find.Goals as goal

pub returns-then-s-i : goal.returns-then-s-i
returns-then-s-i c = sym (c.loop-i.invariant.1 ∙ end_here _ _ _ c.loop-i-test.true c.if-s-i.true)

pub loop-i-preserved : goal.loop-i-preserved
loop-i-preserved c = (omega arith, c.loop-i.invariant.1 ∙ end_later _ _ _ c.loop-i-test.true c.if-s-i.false)

pub returns : goal.returns
returns c =
    let last : c.loop-i.i ≡ c.max.result = omega arith in
    sym (c.loop-i.invariant.1 ∙ end_past _ _ _ c.loop-i-test.false ∙ last)
