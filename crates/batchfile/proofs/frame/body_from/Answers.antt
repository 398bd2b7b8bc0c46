-- `batchfile::frame::body_from` meets its contract, by the invariant that stands beside this. Assumes nothing.
use mathlib.Core.Path.{sym, ◌∙◌}
use native.Mathlib.Omega.{arith}
use Rattle.batchfile.proofs.Gathering.{counting_none, counting_more, counting_stop, counting_over, one-at-most}
use Rattle.batchfile.proofs.frame.body_from.Goals as goal

pub loop-end-init : goal.loop-end-init
loop-end-init c = counting_none _ _

pub slice_bounds-line-start : goal.slice_bounds-line-start
slice_bounds-line-start c = omega (arith, c.line_end-next.ensures.onward.forward)

pub slice_bounds-line-end : goal.slice_bounds-line-end
slice_bounds-line-end c = c.line_end-next.ensures.onward.within (omega arith)

pub returns-then-is_frame : goal.returns-then-is_frame
returns-then-is_frame c = counting_stop _ _ _ _ c.loop-end.invariant _ c.loop-end-test.true c.line_end-next.ensures (sym c.is_frame.ensures ∙ c.if-is_frame.true)

pub overflow_add-count : goal.overflow_add-count
overflow_add-count c = omega (arith, c.loop-end.invariant.few, c.from-count.ensures, one-at-most c.is_msh.result)

pub loop-end-smaller : goal.loop-end-smaller
loop-end-smaller c = omega (arith, c.line_end-next.ensures.onward.further c.loop-end-test.true)

pub loop-end-preserved : goal.loop-end-preserved
loop-end-preserved c =
    counting_more _ _ _ _ c.loop-end.invariant _ c.loop-end-test.true c.line_end-next.ensures
    (sym c.is_frame.ensures ∙ c.if-is_frame.false) c.is_msh.ensures c.from-count.ensures

pub returns : goal.returns
returns c = counting_over _ _ _ _ c.loop-end.invariant c.loop-end-test.false
