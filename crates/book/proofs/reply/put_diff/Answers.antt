-- `book::reply::put_diff` meets its contract. Assumes nothing.
use Rattle.ack.proofs.Writing.{wrote_as}
use Rattle.book.specs.Reply.{diff_text}
use Rattle.book.proofs.Replying.{diff_long, diff_old, diff_new}
use Rattle.book.proofs.reply.put_diff.Goals as goal

pub returns-in-Ok : goal.returns-in-Ok
unfolding diff_text
returns-in-Ok c = rw c.in-Ok.is c.put_made.ensures

pub returns-in-ShortOutput : goal.returns-in-ShortOutput
returns-in-ShortOutput c = rw c.in-Err.is (wrote_as c.put_source_refused.ensures (diff_long _ _ c.in-ShortOutput.is))

pub returns-in_default : goal.returns-in_default
returns-in_default c = rw c.in-Err.is (wrote_as c.put_book_refused.ensures (diff_old _ _ c.in_default.not-ShortOutput c.if-fault-eq1.true))

pub returns-in_default-2 : goal.returns-in_default-2
returns-in_default-2 c = rw c.in-Err.is (wrote_as c.put_book_refused-in_default-2.ensures (diff_new _ _ c.in_default-2.not-ShortOutput c.if-fault-eq1.false))
