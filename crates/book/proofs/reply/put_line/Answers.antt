-- `book::reply::put_line` meets its contract. Assumes nothing.
use Rattle.ack.proofs.Adding.{◌next◌, adds_as, adds_none}
use Rattle.book.proofs.Replying.{line-none, line-some}
use Rattle.book.proofs.reply.put_line.Goals as goal

pub returns-then-line-ne0 : goal.returns-then-line-ne0
returns-then-line-ne0 c = adds_as (c.put.ensures next c.put_number.ensures) (line-some _ _ c.if-line-ne0.true)

pub returns-else-line-ne0 : goal.returns-else-line-ne0
returns-else-line-ne0 c = adds_none _ (line-none _ _ c.if-line-ne0.false)
