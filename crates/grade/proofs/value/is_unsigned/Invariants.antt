-- `grade::value::is_unsigned` meets its contract: all bytes passed are digits and points, and `points` counts the points. Assumes nothing.
use Rattle.grade.proofs.Counting.{Passed}
use Rattle.grade.proofs.value.is_unsigned.Given as goal

abbrev pub invariant-loop-b : goal.invariant-loop-b
invariant-loop-b l = Passed l.v l.points l.b-index
