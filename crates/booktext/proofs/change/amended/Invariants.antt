-- `booktext::change::amended` meets its contract. The invariant of its loop: what those left make of the rule as it is now is what all make of it. Assumes nothing.
use Rattle.booktext.proofs.Changing.{Amends}
use Rattle.booktext.proofs.change.amended.Given as goal

abbrev pub invariant-loop-cell : goal.invariant-loop-cell
invariant-loop-cell g l =
    let it = g.N.CellNumber in
    Amends l.t (it.cell l.fn.rule) l.spot (it.cells l.cells) (it.cell l.last) l.cell-index
