-- `batchfile::batch::keep_front` meets its contract. The invariant of its loop: the room holds the ACKs of the messages before. Assumes nothing.
use mathlib.Core.Path.{◌≡◌}
use lib.ListN.{length}
use Rattle.batchfile.proofs.Joining.{Keeping}
use Rattle.batchfile.proofs.batch.keep_front.Given as goal

abbrev pub invariant-loop-k : goal.invariant-loop-k
invariant-loop-k l = Keeping l.f l.at l.count l.by.book.now l.by.stamp.now l.control l.from l.k l.to l.room × (length l.room ≡ length l.initial.room)
