-- `jasminedo::jasminedo_lamp` meets its contract: the answer of `lamp`, packed. Assumes nothing.
use Rattle.jasminedo.proofs.Packing.{lamp_small, paper-packed}
use Rattle.jasminedo.proofs.jasminedo_lamp.Goals as goal

pub pack-requires : goal.pack-requires
pack-requires c = lamp_small _ _ _ c.lamp.ensures

pub returns : goal.returns
returns c = paper-packed c.lamp.ensures c.pack.ensures
