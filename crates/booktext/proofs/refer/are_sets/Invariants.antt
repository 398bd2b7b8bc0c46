-- `booktext::refer::are_sets` meets its contract. The invariant of its loop: the words passed are names of sets. Assumes nothing.
use mathlib.Core.Path.{◌≡◌}
use lib.ListN.{length}
use Rattle.grade.specs.Encoding.{each}
use Rattle.booktext.specs.Lines.{statements}
use Rattle.booktext.specs.Refusals.{is_set}
use Rattle.booktext.specs.Standing.{words_from}
use Rattle.booktext.proofs.refer.are_sets.Given as goal

abbrev pub invariant-loop-w : goal.invariant-loop-w
invariant-loop-w l = each (is_set (statements l.t)) (words_from l.t l.at) ≡ each (is_set (statements l.t)) (words_from l.t l.i)

abbrev pub decreases-loop-w : goal.decreases-loop-w
decreases-loop-w l = length (words_from l.t l.i)
