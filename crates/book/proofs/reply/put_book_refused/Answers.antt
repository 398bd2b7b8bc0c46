-- `book::reply::put_book_refused` meets its contract. Assumes nothing.
use native.Mathlib.Omega.{arith}
use borrow.Author.Rules.{rules}
use Rattle.ack.proofs.Adding.{◌next◌, wrote_lent}
use Rattle.book.specs.Reply.{book_refused_text}
use Rattle.book.proofs.reply.put_book_refused.Goals as goal

pub returns : goal.returns
unfolding book_refused_text
returns c = wrote_lent (c.put.ensures next (rw c.number.ensures at c.put_number.ensures) next c.put-2.ensures next c.put_byte.ensures) (omega arith) (omega arith) (search rules)
