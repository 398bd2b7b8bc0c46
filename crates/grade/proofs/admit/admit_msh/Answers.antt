-- `grade::admit::admit_msh` meets its contract: rows 6 to 9. Assumes nothing.
use mathlib.Core.Path.{refl, sym, ap, ◌∙◌}
use Rattle.std.proofs.lemmas.Result.{err_from_is_err_and}
use Rattle.grade.specs.Admission.{admitted_told}
use Rattle.grade.proofs.Admitting.{admit_none, admit_unopened, admit_opened}
use Rattle.grade.proofs.admit.admit_msh.Goals as goal

pub returns-then-not-has_control_id : goal.returns-then-not-has_control_id
returns-then-not-has_control_id c = admit_none _ _ _ (sym c.has_control_id.ensures ∙ c.if-not-has_control_id.true)

pub returns-in_err-section : goal.returns-in_err-section
returns-in_err-section c =
    let p = err_from_is_err_and c.from_residual.result c.from_residual.ensures.1 in
    rw (p.1, p.2) (admit_unopened _ _ _ (sym c.has_control_id.ensures ∙ c.if-not-has_control_id.false) c.msh_value-key.ensures c.open_at.ensures _ (ap admitted_told (sym c.in_err-section.was)))

pub returns : goal.returns
returns c =
    admit_opened _ _ _ (sym c.has_control_id.ensures ∙ c.if-not-has_control_id.false) c.msh_value-key.ensures c.open_at.ensures
    c.in_ok-section.was refl c.header_of.ensures
