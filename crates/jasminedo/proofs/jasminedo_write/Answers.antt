-- `jasminedo::jasminedo_write` meets its contract: the answer of `write`, packed. Assumes nothing.
use Rattle.std.proofs.Common.{arith}
use Rattle.jasminedo.proofs.Packing.{record_small, given-packed}
use Rattle.jasminedo.proofs.jasminedo_write.Goals as goal

pub pack-requires : goal.pack-requires
pack-requires c = record_small c.args.message.now c.args.table.now c.args.count (omega arith) c.args.stamp.now c.args.control c.args.output.now c.write-told.ensures

pub returns : goal.returns
returns c = given-packed c.write-told.ensures c.pack.ensures
