-- `batchfile::frame::body_from` meets its contract. The invariant of its loop: so many messages were passed, and no frame name. Assumes nothing.
use Prim.Native.Nat.{◌-◌}
use lib.ListN.{length}
use Rattle.batchfile.proofs.Gathering.{Counting}
use Rattle.batchfile.proofs.frame.body_from.Given as goal

abbrev pub invariant-loop-end : goal.invariant-loop-end
invariant-loop-end l = Counting l.f l.at l.end l.count

abbrev pub decreases-loop-end : goal.decreases-loop-end
decreases-loop-end l = length l.f - l.end
