-- `booktext::cell::CellOf::bound_at` meets its contract. Assumes nothing.
use Rattle.booktext.proofs.Numbering.{bound_here, bound_there}
use Rattle.booktext.proofs.cell.CellOf.bound_at.Goals as goal

pub returns-in-Some : goal.returns-in-Some
returns-in-Some g c = bound_there _ _ g.met.N.CellNumber.cell_is _ c.args.self _ c.in-Some.is c.get.ensures c.skip_words.ensures

pub returns-in-None : goal.returns-in-None
returns-in-None g c = bound_here _ _ g.met.N.CellNumber.cell_is _ c.args.self _ c.in-None.is c.get-in-None.ensures c.skip_words-in-None.ensures
