-- `jasminedo::jasminedo_show` meets its contract: the answer of `show`, packed. Assumes nothing.
use native.Mathlib.Omega.{arith}
use Rattle.canonical.specs.Shown.{show_of}
use Rattle.canonical.proofs.Bounds.{show_packs}
use Rattle.jasminedo.proofs.Packing.{told-small, told-packed}
use Rattle.jasminedo.proofs.jasminedo_show.Goals as goal

pub pack_told-requires : goal.pack_told-requires
pack_told-requires c = told-small (show_of _ _) (show_packs _ (λ k. omega (arith, c.shared_slice_known-1.given k)) _) c.show.ensures

pub returns : goal.returns
returns c = told-packed (show_of _ _) (show_packs _ (λ k. omega (arith, c.shared_slice_known-1.given k)) _) c.show.ensures c.pack_told.ensures
