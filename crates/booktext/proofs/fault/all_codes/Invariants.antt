-- `booktext::fault::all_codes` meets its contract. The invariant of its loop: all words are codes if all from i on are. Assumes nothing.
use mathlib.Core.Path.{◌≡◌}
use lib.ListN.{length}
use Rattle.grade.specs.Encoding.{each, text_fits}
use Rattle.booktext.specs.Standing.{words_from}
use Rattle.booktext.proofs.fault.all_codes.Given as goal

abbrev pub invariant-loop-w : goal.invariant-loop-w
invariant-loop-w l = each (text_fits 20) (words_from l.t l.at) ≡ each (text_fits 20) (words_from l.t l.i)

abbrev pub decreases-loop-w : goal.decreases-loop-w
decreases-loop-w l = length (words_from l.t l.i)
