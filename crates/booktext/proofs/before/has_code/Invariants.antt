-- `booktext::before::has_code` meets its contract. The invariant of its loop: the set has the code after all if it has it after those that are left, where it had it or not after those passed. Assumes nothing.
use Rattle.booktext.proofs.Preceding.{Has}
use Rattle.booktext.proofs.before.has_code.Given as goal

abbrev pub invariant-loop-cell : goal.invariant-loop-cell
invariant-loop-cell l = Has l.t l.name l.code l.cells l.so l.cell-index
