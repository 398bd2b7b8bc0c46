-- `booktext::sets::first_stray` meets its contract, by the invariant that stands beside this. Assumes nothing.
use Rattle.booktext.specs.Lines.{line_of}
use Rattle.booktext.specs.Standing.{names_in}
use Rattle.booktext.proofs.Setting.{stray_here, stray_later, stray_over}
use Rattle.booktext.proofs.sets.first_stray.Goals as goal

pub returns-then-is_stray : goal.returns-then-is_stray
returns-then-is_stray c = stray_here c.args.t.now (names_in c.args.t.now c.args.names.now) (line_of c.args.t.now c.args.head) c.args.cells.now c.loop-cell.cell-index c.loop-cell.invariant c.loop-cell-test.true c.is_stray.ensures c.if-is_stray.true c.line_of.ensures c.line_of-then-is_stray.ensures c.in_section.ensures

pub loop-cell-preserved : goal.loop-cell-preserved
loop-cell-preserved c = stray_later c.args.t.now (names_in c.args.t.now c.args.names.now) (line_of c.args.t.now c.args.head) c.args.cells.now c.loop-cell.cell-index c.loop-cell.invariant c.loop-cell-test.true c.is_stray.ensures c.if-is_stray.false

pub returns : goal.returns
returns c = stray_over c.args.t.now (names_in c.args.t.now c.args.names.now) (line_of c.args.t.now c.args.head) c.args.cells.now c.loop-cell.cell-index c.loop-cell.invariant c.loop-cell-test.false
