-- `batchfile::batch::measure_all` meets its contract, by the invariant that stands beside this. Assumes nothing.
use native.Mathlib.Omega.{arith}
use Rattle.batchfile.proofs.Measuring.{measuring_more, measuring_stop, measuring_done, total-fits}
use Rattle.batchfile.proofs.batch.measure_all.Goals as goal

pub returns-in_default : goal.returns-in_default
returns-in_default c = measuring_stop _ _ _ _ _ _ _ _ _ _ c.loop-k.invariant (omega arith) c.message_end-end.ensures c.in_default.ensures

pub overflow_add-total : goal.overflow_add-total
overflow_add-total c =
    let inv = c.loop-k.invariant in
    omega (
      arith,
      total-fits _ _ _ _ _ _ _ _ _ _ inv (omega arith) c.message_end-end.ensures c.control_at-number.ensures c.in-Some.ensures,
      c.message_end-end.ensures.onward.within inv.walked.within,
      c.requires.0.limited,
    )

pub loop-k-preserved : goal.loop-k-preserved
loop-k-preserved c = measuring_more _ _ _ _ _ _ _ _ _ _ c.loop-k.invariant (omega arith) c.message_end-end.ensures c.control_at-number.ensures c.in-Some.ensures

pub returns : goal.returns
returns c = measuring_done _ _ _ _ _ _ _ _ _ c.loop-k.invariant (omega arith)
