-- `booktext::before::has_word` meets its contract. The invariant of its loop: the code is among all words if it is among those from i on. Assumes nothing.
use mathlib.Core.Path.{◌≡◌}
use lib.ListN.{length}
use Rattle.hl7.specs.Bytes.{among}
use Rattle.booktext.specs.Standing.{words_from}
use Rattle.booktext.proofs.before.has_word.Given as goal

abbrev pub invariant-loop-w : goal.invariant-loop-w
invariant-loop-w l = among l.code (words_from l.t l.at) ≡ among l.code (words_from l.t l.i)

abbrev pub decreases-loop-w : goal.decreases-loop-w
decreases-loop-w l = length (words_from l.t l.i)
