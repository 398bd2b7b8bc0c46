-- `book::reply::put_told` meets its contract. Assumes nothing.
use Rattle.ack.proofs.Writing.{wrote_as}
use Rattle.book.proofs.Replying.{told-compiled, told-refused}
use Rattle.book.proofs.reply.put_told.Goals as goal

pub returns-in-Ok : goal.returns-in-Ok
returns-in-Ok c = rw c.in-Ok.is (wrote_as c.put_counts.ensures (told-compiled _ _ c.front.ensures c.counts_of-counts.ensures))

pub returns-in-Err : goal.returns-in-Err
returns-in-Err c = rw c.in-Err.is (wrote_as c.put_source_refused.ensures (told-refused _ _))
