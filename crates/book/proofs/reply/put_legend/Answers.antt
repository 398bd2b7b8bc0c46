-- `book::reply::put_legend` meets its contract. Assumes nothing.
use Rattle.ack.proofs.Writing.{wrote_as}
use Rattle.book.specs.Reply.{legend_text}
use Rattle.book.proofs.Replying.{legend-refused}
use Rattle.book.proofs.reply.put_legend.Goals as goal

pub returns-in-Ok : goal.returns-in-Ok
unfolding legend_text
returns-in-Ok c = rw c.in-Ok.is c.put_made.ensures

pub returns-in-Err : goal.returns-in-Err
returns-in-Err c = rw c.in-Err.is (wrote_as c.put_source_refused.ensures (legend-refused _ _))
