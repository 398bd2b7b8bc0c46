-- `booktext::change::is_dropped` meets its contract, by the invariant that stands beside this. Assumes nothing.
use mathlib.Core.Bool.{◌&&◌}
use lib.Dec.{eqb}
use Rattle.booktext.specs.Lines.{a_drop}
use Rattle.booktext.specs.Cells.{Cell}
use Rattle.booktext.proofs.Changing.{drops_more, drops_over}
use Rattle.booktext.proofs.Numbering.{all-inside, all_over, so_at}
use Rattle.booktext.proofs.change.is_dropped.Goals as goal

pub loop-cell-preserved : goal.loop-cell-preserved
loop-cell-preserved g c =
    let all = g.met.N.CellNumber.cells_are in
    let cells = c.args.cells.now in
    drops_more _ _ c.loop-cell.any _ c.loop-cell.invariant (all-inside _ _ all cells c.loop-cell-test.true) _
    (so_at _ _ all (λ (x : Cell). eqb x.verb a_drop && eqb x.spot c.args.spot) cells c.loop-cell-test.true c.cell-item.is c.says_of-any.ensures)

pub returns : goal.returns
returns g c = drops_over _ _ _ _ c.loop-cell.invariant (all_over _ _ g.met.N.CellNumber.cells_are c.args.cells.now c.loop-cell-test.false)
