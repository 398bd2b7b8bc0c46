-- `grade::within::next_within` meets its contract: the rules between two that are linked give nothing. Assumes nothing.
use Prim.Native.Nat.{◌-◌}
use mathlib.Core.Path.{◌≡◌}
use Rattle.grade.specs.Rest.{SpotStands, segment_rest}
use Rattle.grade.proofs.within.next_within.Given as goal

abbrev pub invariant-loop-at : goal.invariant-loop-at
invariant-loop-at l = SpotStands l.d l.m l.book l.section l.starts l.here l.at × (segment_rest l.d l.m l.book l.section l.here l.initial.at ≡ segment_rest l.d l.m l.book l.section l.here l.at)

abbrev pub decreases-loop-at : goal.decreases-loop-at
decreases-loop-at l = l.section.rule_count - l.at.rule
