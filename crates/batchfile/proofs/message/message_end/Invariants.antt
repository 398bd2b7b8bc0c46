-- `batchfile::message::message_end` meets its contract. The invariant of its loop: the segments passed so far join the message. Assumes nothing.
use Prim.Native.Nat.{◌-◌}
use lib.ListN.{length}
use Rattle.batchfile.proofs.Gathering.{Passing}
use Rattle.batchfile.proofs.message.message_end.Given as goal

abbrev pub invariant-loop-end : goal.invariant-loop-end
invariant-loop-end l = Passing l.f l.initial.end l.end

abbrev pub decreases-loop-end : goal.decreases-loop-end
decreases-loop-end l = length l.f - l.end
