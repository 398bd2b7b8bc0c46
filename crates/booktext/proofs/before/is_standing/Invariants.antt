-- `booktext::before::is_standing` meets its contract. The invariant of its loop: a rule stands after all if it stands after those that are left, where one stood or did not after those passed. Assumes nothing.
use Rattle.booktext.proofs.Preceding.{Stands}
use Rattle.booktext.proofs.before.is_standing.Given as goal

abbrev pub invariant-loop-cell : goal.invariant-loop-cell
invariant-loop-cell l = Stands l.spot l.cells l.so l.cell-index
