-- `booktext::line::count_words` meets its contract. The invariant of its loop: those counted and those from i on are all. Assumes nothing.
use mathlib.Core.Path.{◌≡◌}
use Prim.Native.Nat.{◌+◌}
use lib.ListN.{length}
use Rattle.booktext.specs.Standing.{words_from}
use Rattle.booktext.proofs.line.count_words.Given as goal

abbrev pub invariant-loop-w : goal.invariant-loop-w
invariant-loop-w l = l.count + length (words_from l.t l.i) ≡ length (words_from l.t l.at)

abbrev pub decreases-loop-w : goal.decreases-loop-w
decreases-loop-w l = length (words_from l.t l.i)
