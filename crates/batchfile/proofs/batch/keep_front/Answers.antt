-- `batchfile::batch::keep_front` meets its contract, by the invariant that stands beside this. Assumes nothing.
use mathlib.Core.Path.{◌∙◌}
use native.Mathlib.Omega.{arith}
use Rattle.batchfile.proofs.Joining.{keeping_more, keeping_same}
use Rattle.batchfile.proofs.batch.keep_front.Goals as goal

pub loop-k-preserved : goal.loop-k-preserved
loop-k-preserved c =
    let inv = c.loop-k.invariant in (
      keeping_more _ _ _ _ _ _ _ _ _ _ _ inv.0 (omega arith) c.message_end-end.ensures c.control_at-number.ensures c.in-Ok.ensures,
      keeping_same _ _ _ _ _ _ _ _ _ _ _ inv.0 (omega arith) c.message_end-end.ensures c.control_at-number.ensures c.in-Ok.ensures ∙ inv.1,
    )
