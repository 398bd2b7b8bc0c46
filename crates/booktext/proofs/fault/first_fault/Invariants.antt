-- `booktext::fault::first_fault` meets its contract. The invariant of its loop: the first fault is the first of the statements from the one found on. Assumes nothing.
use mathlib.Core.Path.{◌≡◌}
use lib.ListN.{length}
use Rattle.booktext.specs.Lines.{statements}
use Rattle.booktext.specs.Faults.{first_fault}
use Rattle.booktext.specs.Standing.{left}
use Rattle.booktext.proofs.Stating.{onward}
use Rattle.booktext.proofs.fault.first_fault.Given as goal

abbrev pub invariant-loop-at : goal.invariant-loop-at
invariant-loop-at l = first_fault l.t 0 (statements l.t) ≡ first_fault l.t l.here (onward l.t (left l.t) l.at)

abbrev pub decreases-loop-at : goal.decreases-loop-at
decreases-loop-at l = length (onward l.t (left l.t) l.at)
