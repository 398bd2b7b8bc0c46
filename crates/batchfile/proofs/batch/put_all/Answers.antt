-- `batchfile::batch::put_all` meets its contract, by the invariant that stands beside this. Assumes nothing.
use native.Mathlib.Omega.{arith}
use Rattle.batchfile.proofs.Joining.{writing_none, writing_told, writing_done, writes_ok}
use Rattle.batchfile.proofs.batch.put_all.Goals as goal

pub loop-k-init : goal.loop-k-init
loop-k-init c =
    let pre = c.requires in writing_none _ _ _ _ _ _ _ _ pre.0 pre.2 pre.3

pub unwrap-to-requires : goal.unwrap-to-requires
unwrap-to-requires c = writes_ok _ _ _ _ _ _ _ _ _ _ _ _ _ c.loop-k.invariant (omega arith) c.message_end-end.ensures _ _ c.control_at-number.ensures c.answer_at-given.ensures

pub loop-k-preserved : goal.loop-k-preserved
loop-k-preserved c = writing_told _ _ _ _ _ _ _ _ _ _ _ _ _ c.loop-k.invariant (omega arith) c.message_end-end.ensures _ c.unwrap-to.ensures c.control_at-number.ensures c.answer_at-given.ensures

pub returns : goal.returns
returns c = let inv = c.loop-k.invariant in writing_done _ _ _ _ _ _ _ _ _ _ _ _ (omega (arith, inv.same)) inv (omega arith)
