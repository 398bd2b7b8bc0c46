-- `booktext::cell::cell_at` meets its contract. Assumes nothing.
use Rattle.booktext.proofs.Numbering.{cell_made}
use Rattle.booktext.proofs.cell.cell_at.Goals as goal

pub of-requires : goal.of-requires
of-requires g c = g.met.N.CellNumber.less_fits _ _ c.requires.1 c.requires.0

pub of-requires-2 : goal.of-requires-2
of-requires-2 g c = g.met.N.CellNumber.less_fits _ _ c.spot_at.ensures.1 g.met.N.CellNumber.spot_fits

pub returns : goal.returns
returns g c = cell_made _ _ g.met.N.CellNumber.cell_is _ c.args.line c.args.given c.of.ensures c.verb_at.ensures.0 c.of-2.ensures c.spot_at.ensures.0
