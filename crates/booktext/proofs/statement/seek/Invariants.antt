-- `booktext::statement::seek` meets its contract. The invariant of its loop: none of the statements passed has the verb and the name. Assumes nothing.
use mathlib.Core.Path.{◌≡◌}
use lib.ListN.{length}
use Rattle.booktext.specs.Meaning.{from}
use Rattle.booktext.specs.Standing.{left}
use Rattle.booktext.proofs.Stating.{onward}
use Rattle.booktext.proofs.statement.seek.Given as goal

abbrev pub invariant-loop-at : goal.invariant-loop-at
invariant-loop-at l = from l.verb l.name (left l.t l.start) ≡ from l.verb l.name (onward l.t (left l.t) l.at)

abbrev pub decreases-loop-at : goal.decreases-loop-at
decreases-loop-at l = length (onward l.t (left l.t) l.at)
