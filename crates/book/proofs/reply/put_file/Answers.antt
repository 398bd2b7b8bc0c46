-- `book::reply::put_file` meets its contract. Assumes nothing.
use native.Mathlib.Omega.{arith}
use borrow.Author.Rules.{rules}
use Rattle.ack.proofs.Adding.{◌next◌, wrote_lent}
use Rattle.book.specs.Reply.{file_text}
use Rattle.book.proofs.reply.put_file.Goals as goal

pub returns : goal.returns
unfolding file_text
returns c = wrote_lent (c.put.ensures next c.put-2.ensures next c.put-3.ensures next c.put-4.ensures next c.put_byte.ensures) (omega arith) (omega arith) (search rules)
