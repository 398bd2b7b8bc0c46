-- `jasminedo::jasminedo_compile` meets its contract: the answer of `compile`, packed. Assumes nothing.
use Rattle.booktext.specs.Refusals.{compile_of}
use Rattle.booktext.proofs.Bounds.{compile_packs}
use Rattle.jasminedo.proofs.Packing.{told-small, told-packed}
use Rattle.jasminedo.proofs.jasminedo_compile.Goals as goal

pub pack_told-requires : goal.pack_told-requires
pack_told-requires c = told-small (compile_of _ _) (compile_packs _ _) c.compile.ensures

pub returns : goal.returns
returns c = told-packed (compile_of _ _) (compile_packs _ _) c.compile.ensures c.pack_told.ensures
