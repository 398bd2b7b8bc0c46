-- `booktext::sets::is_lessened` meets its contract, by the invariant that stands beside this. Assumes nothing.
use Rattle.booktext.proofs.Spelling.{lessened-here, lessened-later, lessened-over}
use Rattle.booktext.proofs.sets.is_lessened.Goals as goal

pub returns-then-takes_code : goal.returns-then-takes_code
returns-then-takes_code c =
    let entry = c.args in
    lessened-here entry.t.now entry.cells.now entry.name.now entry.code.now c.loop-cell.cell-index c.loop-cell.invariant c.loop-cell-test.true c.takes_code.ensures c.if-takes_code.true

pub loop-cell-preserved : goal.loop-cell-preserved
loop-cell-preserved c =
    let entry = c.args in
    lessened-later entry.t.now entry.cells.now entry.name.now entry.code.now c.loop-cell.cell-index c.loop-cell.invariant c.loop-cell-test.true c.takes_code.ensures c.if-takes_code.false

pub returns : goal.returns
returns c =
    let entry = c.args in
    lessened-over entry.t.now entry.cells.now entry.name.now entry.code.now c.loop-cell.cell-index c.loop-cell.invariant c.loop-cell-test.false
