-- `booktext::statement::next_statement` meets its contract. The invariant of its loop: the lines passed say nothing. Assumes nothing.
use mathlib.Core.Path.{◌≡◌}
use Prim.Native.Nat.{◌+◌, ◌-◌}
use lib.ListN.{length}
use Rattle.booktext.specs.Standing.{left}
use Rattle.booktext.proofs.statement.next_statement.Given as goal

abbrev pub invariant-loop-at : goal.invariant-loop-at
invariant-loop-at l = left l.t l.from ≡ left l.t l.at

abbrev pub decreases-loop-at : goal.decreases-loop-at
decreases-loop-at l = length l.t + 1 - l.at
