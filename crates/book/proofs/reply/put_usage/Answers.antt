-- `book::reply::put_usage` meets its contract. Assumes nothing.
use native.Mathlib.Omega.{arith}
use borrow.Author.Rules.{rules}
use Rattle.ack.proofs.Adding.{wrote_lent}
use Rattle.book.proofs.reply.put_usage.Goals as goal

pub returns : goal.returns
returns c = wrote_lent (c.put.ensures) (omega arith) (omega arith) (search rules)
