-- `legend::legend::put_legend` meets its contract. Assumes nothing.
use native.Mathlib.Omega.{arith}
use borrow.Author.Rules.{rules}
use Rattle.ack.proofs.Adding.{wrote_lent}
use Rattle.legend.proofs.legend.put_legend.Goals as goal

pub returns : goal.returns
returns c = wrote_lent c.put_sections.ensures (omega arith) (omega arith) (search rules)
