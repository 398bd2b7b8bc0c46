-- `booktext::heads::note_heads` meets its contract. The invariant of its loop: whoever looks among the noted ones and then from `at` on has looked everywhere.
-- Assumes nothing.
use lib.ListN.{length}
use Rattle.booktext.specs.Standing.{left}
use Rattle.booktext.proofs.Stating.{onward}
use Rattle.booktext.proofs.Heading.{Heading}
use Rattle.booktext.proofs.heads.note_heads.Given as goal

abbrev pub invariant-loop-at : goal.invariant-loop-at
invariant-loop-at l = Heading l.t l.initial.heads l.heads l.count l.at

abbrev pub decreases-loop-at : goal.decreases-loop-at
decreases-loop-at l = length (onward l.t (left l.t) l.at)
