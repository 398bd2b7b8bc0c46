-- `booktext::change::is_dropped` meets its contract. The invariant of its loop: one that is passed drops it, or one that is left. Assumes nothing.
use Rattle.booktext.proofs.Changing.{Drops}
use Rattle.booktext.proofs.change.is_dropped.Given as goal

abbrev pub invariant-loop-cell : goal.invariant-loop-cell
invariant-loop-cell g l = Drops l.spot (g.N.CellNumber.cells l.cells) l.any l.cell-index
