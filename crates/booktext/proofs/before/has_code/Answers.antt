-- `booktext::before::has_code` meets its contract, by the invariant that stands beside this. Assumes nothing.
use Rattle.booktext.proofs.Preceding.{has-none, has_more, has-over}
use Rattle.booktext.proofs.before.has_code.Goals as goal

pub loop-cell-init : goal.loop-cell-init
loop-cell-init c =
    let a = c.args in
    has-none a.t.now a.name.now a.code.now a.cells.now c.has_own-so.ensures

pub loop-cell-preserved : goal.loop-cell-preserved
loop-cell-preserved c =
    let a = c.args in
    has_more a.t.now a.name.now a.code.now a.cells.now c.loop-cell.so c.loop-cell.cell-index c.loop-cell.invariant c.loop-cell-test.true c.has_after-so.ensures

pub returns : goal.returns
returns c =
    let a = c.args in
    has-over a.t.now a.name.now a.code.now a.cells.now c.loop-cell.so c.loop-cell.cell-index c.loop-cell.invariant c.loop-cell-test.false
