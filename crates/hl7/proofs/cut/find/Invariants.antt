-- `hl7::cut::find` meets its contract. The invariant of its loop: the part that begins at `from` ends where one that began at i would.
-- Assumes nothing.
use mathlib.Core.Path.{◌≡◌}
use Prim.Native.Nat.{◌≤◌, max}
use lib.ListN.{length}
use Rattle.hl7.specs.Cut.{end_from}
use Rattle.hl7.proofs.cut.find.Given as goal

abbrev pub invariant-loop-i : goal.invariant-loop-i
invariant-loop-i l = (l.i ≤ max l.from (length l.s)) × (end_from l.d l.s l.from ≡ end_from l.d l.s l.i)
