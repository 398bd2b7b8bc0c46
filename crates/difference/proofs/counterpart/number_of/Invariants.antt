-- `difference::counterpart::number_of` meets its contract. The invariant of its loop: the number among all is that among those left. Assumes nothing.
use mathlib.Core.Path.{◌≡◌}
use Rattle.difference.specs.Difference.{numbered}
use Rattle.difference.proofs.Counting.{numbered_from}
use Rattle.difference.proofs.counterpart.number_of.Given as goal

abbrev pub invariant-loop-i : goal.invariant-loop-i
invariant-loop-i l = numbered 1 l.spot l.before l.noted ≡ numbered_from l.noted l.spot l.i l.left
