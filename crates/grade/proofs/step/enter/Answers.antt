-- `grade::step::enter` meets its contract. Assumes nothing.
use mathlib.Core.Path.{refl, sym, ◌∙◌}
use borrow.Author.Tests.{lt-ltb}
use Rattle.grade.proofs.Segments.{entered}
use Rattle.grade.proofs.step.enter.Goals as goal

pub returns-then-out_of_order : goal.returns-then-out_of_order
returns-then-out_of_order c = (sym c.out_of_order.ensures ∙ c.if-out_of_order.true, c.order_finding.ensures, entered c.none_wrong.ensures refl (λ l. c.note_segment-marks.ensures (lt-ltb _ _ l)))

pub returns : goal.returns
returns c = (sym c.out_of_order.ensures ∙ c.if-out_of_order.false, entered c.none_wrong.ensures refl (λ l. c.note_segment-marks.ensures (lt-ltb _ _ l)))
