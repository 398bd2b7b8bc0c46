-- `batchfile::batch::put_all` meets its contract. The invariant of its loop: with the ACKs that are left written too, all are. Assumes nothing.
use Rattle.batchfile.proofs.Joining.{Writing}
use Rattle.batchfile.proofs.batch.put_all.Given as goal

abbrev pub invariant-loop-k : goal.invariant-loop-k
invariant-loop-k l = Writing l.f l.at l.count l.by.book.now l.by.stamp.now l.control l.initial.out l.start l.from l.k l.to l.out
