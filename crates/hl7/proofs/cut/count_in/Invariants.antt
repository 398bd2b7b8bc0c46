-- `hl7::cut::count_in` meets its contract. The invariant of its loop: those counted and those left are all; no more are counted than passed.
-- Assumes nothing.
use mathlib.Core.Path.{◌≡◌}
use Prim.Native.Nat.{◌+◌, ◌≤◌}
use lib.ListN.{drop}
use Rattle.hl7.specs.Spans.{occurrences}
use Rattle.hl7.proofs.cut.count_in.Given as goal

abbrev pub invariant-loop-x : goal.invariant-loop-x
invariant-loop-x l = (l.n ≤ l.x-index) × (occurrences l.d l.v ≡ l.n + occurrences l.d (drop l.x-index l.v))
