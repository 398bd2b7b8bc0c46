-- `hl7::cut::pass_clear` meets its contract, by the invariant that stands beside this. Assumes nothing.
use mathlib.Core.Path.{sym, ap, ◌∙◌}
use native.Mathlib.Omega.{arith}
use Rattle.hl7.specs.Bytes.{all, differs}
use Rattle.hl7.proofs.Cutting.{block_at, block-rest, block_within, end_clear}
use Rattle.hl7.proofs.cut.pass_clear.Goals as goal

pub loop-block-preserved : goal.loop-block-preserved
loop-block-preserved c =
    let s = c.args.s.now in
    let l = c.loop-block in
    let next = c.in-Some.ensures.steps in
    let left = sym l.invariant.0 ∙ next.1.0 in
    let size = next.1.1 ∙ l.invariant.1 in
    let clear = ap (all (differs c.args.d)) (block_at s _ _ l.at 16 left size) ∙ sym c.none_is.ensures ∙ c.if-not-none_is.false in (
      block-rest s _ _ l.at 16 left size,
      next.0 ∙ l.invariant.1,
      l.invariant.2 ∙ end_clear c.args.d s 16 l.at (block_within s _ _ l.at 16 left size (omega arith)) clear,
    )
