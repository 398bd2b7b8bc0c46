-- `batchfile::batch::is_right` meets its contract. Assumes nothing.
use native.Mathlib.Omega.{arith}
use Rattle.batchfile.proofs.Answering.{right_is}
use Rattle.batchfile.proofs.batch.is_right.Goals as goal

pub is_framed-requires : goal.is_framed-requires
is_framed-requires c = (c.delims_of-d.ensures, c.requires.0)

pub is_counted-requires : goal.is_counted-requires
is_counted-requires c = (c.delims_of-d.ensures, c.requires.0, omega (arith, c.requires.0.few, c.requires.1))

pub overflow_add-result : goal.overflow_add-result
overflow_add-result c = omega (arith, c.requires.0.few, c.requires.1, c.requires.2)

pub returns : goal.returns
returns c = right_is _ _ c.requires.1 c.is_framed.ensures c.is_counted.ensures c.requires.0.count
