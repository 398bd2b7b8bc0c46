-- `jasminedo::jasminedo_batch` meets its contract: the answer of `answer_batch`, packed. Assumes nothing.
use Rattle.jasminedo.proofs.Packing.{batch_small, given-packed}
use Rattle.jasminedo.proofs.jasminedo_batch.Goals as goal

pub pack-requires : goal.pack-requires
pack-requires c = batch_small _ _ _ _ _ c.answer_batch.ensures

pub returns : goal.returns
returns c = given-packed c.answer_batch.ensures c.pack.ensures
