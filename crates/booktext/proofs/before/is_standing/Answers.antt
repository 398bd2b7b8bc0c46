-- `booktext::before::is_standing` meets its contract, by the invariant that stands beside this. Assumes nothing.
use Rattle.booktext.proofs.Preceding.{stands-none, stands_more, stands-over}
use Rattle.booktext.proofs.before.is_standing.Goals as goal

pub loop-cell-init : goal.loop-cell-init
loop-cell-init c =
    let a = c.args in stands-none a.spot a.cells.now

pub loop-cell-preserved : goal.loop-cell-preserved
loop-cell-preserved c =
    let a = c.args in
    stands_more a.spot a.cells.now c.loop-cell.so c.loop-cell.cell-index c.loop-cell.invariant c.loop-cell-test.true c.stands_after-so.result c.stands_after-so.ensures

pub returns : goal.returns
returns c =
    let a = c.args in
    stands-over a.spot a.cells.now c.loop-cell.so c.loop-cell.cell-index c.loop-cell.invariant c.loop-cell-test.false
