-- `jasminedo::jasminedo_grade` meets its contract: the answer of `grade`, packed. Assumes nothing.
use Rattle.jasminedo.proofs.Packing.{table-small, paper-packed}
use Rattle.jasminedo.proofs.jasminedo_grade.Goals as goal

pub pack-requires : goal.pack-requires
pack-requires c = table-small c.args.message.now c.args.book.now c.args.table.now c.grade-told.ensures.0

pub returns : goal.returns
returns c = (paper-packed c.grade-told.ensures.0 c.pack.ensures, c.grade-told.ensures.1)
