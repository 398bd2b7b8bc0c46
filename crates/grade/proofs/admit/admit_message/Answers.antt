-- `grade::admit::admit_message` meets its contract: rows 1 to 5, and then row 6. Assumes nothing.
use mathlib.Core.Path.{refl, ap, ◌∙◌}
use Rattle.std.proofs.lemmas.Result.{err_from_is_err_and}
use Rattle.hl7.specs.Place.{is_msh}
use Rattle.hl7.proofs.Refusing.{sound-msh}
use Rattle.grade.specs.declared.refusal.Refusal.{Refusal}
use Rattle.grade.proofs.Admitting.{read_refused, read_sound, six_sound, six_refused}
use Rattle.grade.proofs.admit.admit_message.Goals as goal

pub returns-in_err-check : goal.returns-in_err-check
returns-in_err-check c =
    let p = err_from_is_err_and c.from_residual.result c.from_residual.ensures.1 in
    let told = c.in_err-check.ensures in
    rw (p.1, p.2) (six_refused _ (read_refused _ (Refusal.Unreadable c.in_err-check.field-0.0) told) told)

pub admit_control-requires : goal.admit_control-requires
admit_control-requires c = ap is_msh c.segment.ensures.bytes ∙ sound-msh _ (read_sound _ c.in_ok-check.ensures refl)

pub returns : goal.returns
returns c = six_sound _ (read_sound _ c.in_ok-check.ensures refl) c.delims_of.ensures c.segment.ensures.bytes c.admit_control.ensures
