-- `grade::admit::admit_stamped` meets its contract: rows 1 to 9, and then the stamp's. Assumes nothing.
use mathlib.Core.Path.{sym, ◌∙◌}
use Rattle.std.proofs.lemmas.Result.{err_from_is_err_and}
use Rattle.grade.proofs.Admitting.{stamped_refused, stamped_right, stamped_wrong}
use Rattle.grade.proofs.admit.admit_stamped.Goals as goal

pub returns-in_err-terms : goal.returns-in_err-terms
returns-in_err-terms c =
    let p = err_from_is_err_and c.from_residual.result c.from_residual.ensures.1 in
    rw (p.1, p.2) (stamped_refused _ _ _ c.in_err-terms.ensures)

pub returns-then-right : goal.returns-then-right
returns-then-right c = stamped_right _ _ _ c.in_ok-terms.ensures (sym c.is_stamp-right.ensures ∙ c.if-right.true)

pub returns-else-right : goal.returns-else-right
returns-else-right c = stamped_wrong _ _ _ c.in_ok-terms.ensures (sym c.is_stamp-right.ensures ∙ c.if-right.false)
