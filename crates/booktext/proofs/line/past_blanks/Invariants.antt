-- `booktext::line::past_blanks` meets its contract. The invariant of its loop: the run that begins at `from` ends where one that began at i would. Assumes nothing.
use mathlib.Core.Path.{◌≡◌}
use Prim.Native.Nat.{◌+◌, ◌-◌}
use lib.ListN.{length, drop}
use Rattle.booktext.specs.Lines.{blank}
use Rattle.booktext.specs.Standing.{run}
use Rattle.booktext.proofs.line.past_blanks.Given as goal

abbrev pub invariant-loop-i : goal.invariant-loop-i
invariant-loop-i l = l.from + length (run blank (drop l.from l.t)) ≡ l.i + length (run blank (drop l.i l.t))

abbrev pub decreases-loop-i : goal.decreases-loop-i
decreases-loop-i l = length l.t - l.i
