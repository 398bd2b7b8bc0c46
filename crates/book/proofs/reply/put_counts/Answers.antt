-- `book::reply::put_counts` meets its contract. Assumes nothing.
use native.Mathlib.Omega.{arith}
use borrow.Author.Rules.{rules}
use Rattle.ack.proofs.Adding.{◌next◌, wrote_lent}
use Rattle.book.specs.Reply.{compiled_text}
use Rattle.book.proofs.reply.put_counts.Goals as goal

pub returns : goal.returns
unfolding compiled_text
returns c = wrote_lent (c.put.ensures next c.put_number.ensures next c.put-2.ensures next c.put_number-2.ensures next c.put-3.ensures next c.put_number-3.ensures next c.put-4.ensures next c.put_number-4.ensures next c.put-5.ensures) (omega arith) (omega arith) (search rules)
