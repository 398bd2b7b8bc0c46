-- `booktext::change::settle` meets its contract. The invariant of its loop: what is left of those passed, and those to come settled, are all settled. Assumes
-- nothing.
use Rattle.booktext.proofs.Changing.{Settling}
use Rattle.booktext.proofs.change.settle.Given as goal

abbrev pub invariant-loop-i : goal.invariant-loop-i
invariant-loop-i l = Settling l.t l.initial.cells l.cells l.count l.i
