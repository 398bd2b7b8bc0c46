-- `grade::admit::admit` meets its contract: rows 1 to 5, and then those of the book. Assumes nothing.
use mathlib.Core.Path.{refl, ap, ◌∙◌}
use Rattle.std.proofs.lemmas.Result.{err_from_is_err_and}
use Rattle.hl7.specs.Place.{is_msh}
use Rattle.hl7.proofs.Refusing.{sound-msh}
use Rattle.grade.proofs.Admitting.{read_sound, admit_sound, admit_refused}
use Rattle.grade.proofs.admit.admit.Goals as goal

pub returns-in_err-check : goal.returns-in_err-check
returns-in_err-check c =
    let p = err_from_is_err_and c.from_residual.result c.from_residual.ensures.1 in
    rw (p.1, p.2) (admit_refused _ _ _ c.in_err-check.ensures)

pub admit_msh-requires : goal.admit_msh-requires
admit_msh-requires c = (ap is_msh c.segment.ensures.bytes ∙ sound-msh _ (read_sound _ c.in_ok-check.ensures refl), c.requires)

pub returns : goal.returns
returns c = admit_sound _ _ (read_sound _ c.in_ok-check.ensures refl) c.delims_of.ensures c.segment.ensures.bytes c.admit_msh.ensures
