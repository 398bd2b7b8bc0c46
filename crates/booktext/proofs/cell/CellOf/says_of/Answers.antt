-- `booktext::cell::CellOf::says_of` meets its contract. Assumes nothing.
use Rattle.booktext.proofs.Numbering.{says_here}
use Rattle.booktext.proofs.cell.CellOf.says_of.Goals as goal

pub returns : goal.returns
returns g c = says_here _ _ g.met.N.CellNumber.cell_is c.args.self c.get.ensures c.args.verb c.args.spot
