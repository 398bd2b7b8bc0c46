-- `hl7::refusal::wrong_segment` meets its contract. The invariant of its loop: the wrong segments are those that start at `at` or later.
-- Assumes nothing.
use mathlib.Core.Path.{◌≡◌}
use Prim.Native.Nat.{◌-◌}
use lib.ListN.{length, drop}
use Rattle.hl7.specs.Cut.{cut}
use Rattle.hl7.specs.Place.{carriage_return}
use Rattle.hl7.specs.Refusals.{wrong_segments}
use Rattle.hl7.proofs.refusal.wrong_segment.Given as goal

abbrev pub invariant-loop-at : goal.invariant-loop-at
invariant-loop-at l = wrong_segments l.d 0 (cut carriage_return l.m) ≡ wrong_segments l.d l.at (cut carriage_return (drop l.at l.m))

abbrev pub decreases-loop-at : goal.decreases-loop-at
decreases-loop-at l = length l.m - l.at
