-- `ack::output::put` meets its contract: what fits is copied in one go. Assumes nothing.
use native.Mathlib.Omega.{arith}
use Rattle.ack.proofs.Writing.{wrote_copied, wrote_nowhere}
use Rattle.ack.proofs.output.put.Goals as goal

pub returns-then-n-gt0 : goal.returns-then-n-gt0
returns-then-n-gt0 c = wrote_copied _ _ _ _ c.fitting-n.result _ (omega arith) (omega arith) (omega arith) c.copy_from_slice.ensures.after (omega arith)

pub returns-else-n-gt0 : goal.returns-else-n-gt0
returns-else-n-gt0 c = wrote_nowhere _ _ _ c.fitting-n.result _ (omega arith) (omega arith) (omega arith) (omega arith)
