-- `book::reply::put_new_name` meets its contract. Assumes nothing.
use native.Mathlib.Omega.{arith}
use borrow.Author.Rules.{rules}
use Rattle.ack.proofs.Adding.{◌next◌, wrote_lent}
use Rattle.book.proofs.reply.put_new_name.Goals as goal

pub returns : goal.returns
returns c = wrote_lent (c.put.ensures next c.put-2.ensures) (omega arith) (omega arith) (search rules)
