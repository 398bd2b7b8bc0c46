-- `legend::legend::put_changes` meets its contract, by the invariant that stands beside this. Assumes nothing.
use Rattle.ack.proofs.Adding.{adding_more, adding_over}
use Rattle.booktext.proofs.Marking.{mark_at}
use Rattle.legend.proofs.Listing.{changes_next, changes-none}
use Rattle.legend.proofs.legend.put_changes.Goals as goal

pub loop-cell-init : goal.loop-cell-init
loop-cell-init c = λ after w. w

pub put_change-requires : goal.put_change-requires
put_change-requires c = mark_at c.args.t.now c.args.cells.now c.loop-cell.cell-index c.requires c.loop-cell-test.true

pub loop-cell-preserved : goal.loop-cell-preserved
loop-cell-preserved c = adding_more c.loop-cell.invariant (changes_next c.args.t.now c.args.spot c.args.cells.now c.loop-cell.cell-index c.loop-cell-test.true) c.put_change.ensures

pub returns : goal.returns
returns c = adding_over c.loop-cell.invariant (changes-none c.args.t.now c.args.spot c.args.cells.now c.loop-cell.cell-index c.loop-cell-test.false)
