-- `batchfile::message::message_end` meets its contract, by the invariant that stands beside this. Assumes nothing.
use mathlib.Core.Path.{sym, ap₂, ◌∙◌}
use mathlib.Core.Bool.{◌||◌}
use native.Mathlib.Omega.{arith}
use Rattle.batchfile.proofs.Gathering.{passing_none, passing_more, ends_next, ends-over}
use Rattle.batchfile.proofs.message.message_end.Goals as goal

pub loop-end-init : goal.loop-end-init
loop-end-init c = passing_none _ _

pub slice_bounds-line-start : goal.slice_bounds-line-start
slice_bounds-line-start c = omega (arith, c.line_end-next.ensures.onward.forward)

pub slice_bounds-line-end : goal.slice_bounds-line-end
slice_bounds-line-end c = c.line_end-next.ensures.onward.within (omega arith)

pub returns-then-is_frame-is_msh : goal.returns-then-is_frame-is_msh
returns-then-is_frame-is_msh c =
    ends_next _ _ _ _ c.line_end-end.ensures c.loop-end.invariant _ c.loop-end-test.true c.line_end-next.ensures
    (sym (ap₂ ◌||◌ c.is_frame.ensures c.is_msh.ensures) ∙ c.if-is_frame-is_msh.true)

pub loop-end-smaller : goal.loop-end-smaller
loop-end-smaller c = omega (arith, c.line_end-next.ensures.onward.further c.loop-end-test.true)

pub loop-end-preserved : goal.loop-end-preserved
loop-end-preserved c =
    passing_more _ _ _ _ c.loop-end.invariant c.loop-end-test.true c.line_end-next.ensures
    (sym (ap₂ ◌||◌ c.is_frame.ensures c.is_msh.ensures) ∙ c.if-is_frame-is_msh.false)

pub returns : goal.returns
returns c = ends-over _ _ _ _ c.line_end-end.ensures c.loop-end.invariant c.loop-end-test.false
