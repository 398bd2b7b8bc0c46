-- `canonical::show::put_shown` meets its contract. Assumes nothing.
use native.Mathlib.Omega.{arith}
use Rattle.canonical.proofs.PutBook.{shown-written}
use borrow.Author.Rules.{rules}
use Rattle.ack.proofs.Adding.{wrote_lent}
use Rattle.canonical.proofs.show.put_shown.Goals as goal

pub put_sections-requires : goal.put_sections-requires
put_sections-requires c = (c.requires, omega arith)

pub returns : goal.returns
returns c = wrote_lent (shown-written _ c.put.ensures c.put_sections.ensures) (omega arith) (omega arith) (search rules)
