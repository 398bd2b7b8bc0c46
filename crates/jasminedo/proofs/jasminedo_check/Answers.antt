-- `jasminedo::jasminedo_check` meets its contract: the answer of `check`, packed. Assumes nothing.
use mathlib.Core.Path.{◌∙◌}
use Rattle.jasminedo.proofs.Packing.{reading_small, paper-packed}
use Rattle.jasminedo.proofs.jasminedo_check.Goals as goal

pub pack-requires : goal.pack-requires
pack-requires c = reading_small _ (c.of_reading.ensures ∙ c.check.ensures)

pub returns : goal.returns
returns c = paper-packed (c.of_reading.ensures ∙ c.check.ensures) c.pack.ensures
