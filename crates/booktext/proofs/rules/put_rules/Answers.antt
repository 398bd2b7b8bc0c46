-- `booktext::rules::put_rules` meets its contract, by the invariant that stands beside this. Assumes nothing.
use Rattle.booktext.proofs.Completing.{completes_more, completes_over}
use Rattle.booktext.proofs.Ruling.{spelt_more, spelt-over, ready_more}
use Rattle.booktext.proofs.rules.put_rules.Goals as goal

pub loop-cell-preserved : goal.loop-cell-preserved
loop-cell-preserved c =
    let inv = c.loop-cell.invariant in
    ((ready_more _ _ _ c.loop-cell-test.true inv.0).1, completes_more inv.1 (spelt_more _ _ _ _ c.loop-cell-test.true) c.put_made-to.ensures)

pub returns : goal.returns
returns c = completes_over c.loop-cell.invariant.1 (spelt-over _ _ _ _ c.loop-cell-test.false) c.put.ensures
