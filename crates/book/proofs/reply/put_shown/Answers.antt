-- `book::reply::put_shown` meets its contract. Assumes nothing.
use Rattle.ack.proofs.Writing.{wrote_as}
use Rattle.book.specs.Reply.{shown_text}
use Rattle.book.proofs.Replying.{shown-refused}
use Rattle.book.proofs.reply.put_shown.Goals as goal

pub returns-in-Ok : goal.returns-in-Ok
unfolding shown_text
returns-in-Ok c = rw c.in-Ok.is c.put_made.ensures

pub returns-in-Err : goal.returns-in-Err
returns-in-Err c = rw c.in-Err.is (wrote_as c.put_book_refused.ensures (shown-refused _ _))
