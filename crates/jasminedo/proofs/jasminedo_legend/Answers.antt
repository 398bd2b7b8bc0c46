-- `jasminedo::jasminedo_legend` meets its contract: the answer of `legend`, packed. Assumes nothing.
use Rattle.legend.specs.Legend.{legend_of}
use Rattle.legend.proofs.Answering.{legend_packs}
use Rattle.jasminedo.proofs.Packing.{told-small, told-packed}
use Rattle.jasminedo.proofs.jasminedo_legend.Goals as goal

pub pack_told-requires : goal.pack_told-requires
pack_told-requires c = told-small (legend_of _ _) (legend_packs _ _) c.legend.ensures

pub returns : goal.returns
returns c = told-packed (legend_of _ _) (legend_packs _ _) c.legend.ensures c.pack_told.ensures
