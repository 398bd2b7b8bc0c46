-- `grade::admit::admit_control` meets its contract. Assumes nothing.
use mathlib.Core.Path.{sym, ◌∙◌}
use Rattle.hl7.specs.Refusals.{first_row}
use Rattle.grade.proofs.admit.admit_control.Goals as goal

pub returns-then-has_control_id : goal.returns-then-has_control_id
unfolding first_row
returns-then-has_control_id c = rw (sym c.has_control_id.ensures ∙ c.if-has_control_id.true)

pub returns-else-has_control_id : goal.returns-else-has_control_id
unfolding first_row
returns-else-has_control_id c = rw (sym c.has_control_id.ensures ∙ c.if-has_control_id.false)
