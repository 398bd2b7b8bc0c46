-- `booktext::refer::first_name_fault` meets its contract. The invariant of its loop: what is told of all is what is told of the statements left, with as many
-- sections before them as were counted. Assumes nothing.
use lib.ListN.{length}
use Rattle.booktext.specs.Standing.{left}
use Rattle.booktext.proofs.Stating.{onward}
use Rattle.booktext.proofs.Referring.{Naming}
use Rattle.booktext.proofs.refer.first_name_fault.Given as goal

abbrev pub invariant-loop-at : goal.invariant-loop-at
invariant-loop-at l = Naming l.t l.sections l.at

abbrev pub decreases-loop-at : goal.decreases-loop-at
decreases-loop-at l = length (onward l.t (left l.t) l.at)
