-- `book::counts::add_up` meets its contract: what was added up, with what the sections that are left have, is what all have. Assumes nothing.
use Rattle.book.proofs.Counting.{Adding}
use Rattle.book.proofs.counts.add_up.Given as goal

abbrev pub invariant-loop-start : goal.invariant-loop-start
invariant-loop-start l = Adding l.book l.starts l.rules l.sets l.start-index
