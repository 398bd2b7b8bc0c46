-- `book::reply::put_made` meets its contract. Assumes nothing.
use native.Mathlib.Omega.{arith}
use Rattle.book.proofs.Replying.{made-stands}
use Rattle.book.proofs.reply.put_made.Goals as goal

pub returns : goal.returns
returns c = made-stands c.args.size _ c.front.ensures (omega arith)
