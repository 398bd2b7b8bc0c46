-- `grade::value::digit_run` meets its contract: the bytes passed are digits, so the run is what was passed and the run of what is left. Assumes nothing.
use Prim.Native.Nat.{◌+◌}
use mathlib.Core.Path.{◌≡◌}
use lib.ListN.{drop}
use Rattle.grade.specs.Digits.{digit_run}
use Rattle.grade.proofs.value.digit_run.Given as goal

abbrev pub invariant-loop-i : goal.invariant-loop-i
invariant-loop-i l = digit_run l.v ≡ l.i + digit_run (drop l.i l.v)
