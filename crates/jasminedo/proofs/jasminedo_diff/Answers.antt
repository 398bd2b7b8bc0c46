-- `jasminedo::jasminedo_diff` meets its contract: the answer of `difference`, packed. Assumes nothing.
use native.Mathlib.Omega.{arith}
use Rattle.difference.specs.Difference.{diff_of}
use Rattle.difference.proofs.Bounds.{diff_packs}
use Rattle.jasminedo.proofs.Packing.{told-small, told-packed}
use Rattle.jasminedo.proofs.jasminedo_diff.Goals as goal

pub pack_told-requires : goal.pack_told-requires
pack_told-requires c = told-small (diff_of _ _ _) (diff_packs _ _ (λ k. omega (arith, c.shared_slice_known-1.given k)) (λ k. omega (arith, c.shared_slice_known-2-1.given k)) _) c.difference.ensures

pub returns : goal.returns
returns c = told-packed (diff_of _ _ _) (diff_packs _ _ (λ k. omega (arith, c.shared_slice_known-1.given k)) (λ k. omega (arith, c.shared_slice_known-2-1.given k)) _) c.difference.ensures c.pack_told.ensures
