-- `show::text::put_bad_line` meets its contract. Assumes nothing.
use native.Mathlib.Omega.{arith}
use borrow.Author.Rules.{rules}
use Rattle.ack.proofs.Adding.{wrote_lent}
use Rattle.show.proofs.text.put_bad_line.Goals as goal

pub returns : goal.returns
returns c = wrote_lent c.put.ensures (omega arith) (omega arith) (search rules)
