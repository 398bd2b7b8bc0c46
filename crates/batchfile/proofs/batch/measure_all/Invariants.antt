-- `batchfile::batch::measure_all` meets its contract. The invariant of its loop: what is known of all messages by those that are left. Assumes nothing.
use Rattle.batchfile.proofs.Measuring.{Measuring}
use Rattle.batchfile.proofs.batch.measure_all.Given as goal

abbrev pub invariant-loop-k : goal.invariant-loop-k
invariant-loop-k l = Measuring l.f l.at l.count l.by.book.now l.by.stamp.now l.control l.from l.k l.total
