-- `legend::legend::put_line` meets its contract. Assumes nothing.
use Rattle.booktext.proofs.Marking.{part_marks}
use Rattle.legend.proofs.Listing.{line-listed}
use Rattle.legend.proofs.legend.put_line.Goals as goal

pub put_amended-requires : goal.put_amended-requires
put_amended-requires c = (part_marks c.args.t.now c.args.cells.now c.args.i c.requires.0, c.requires.2)

pub returns : goal.returns
returns c = line-listed c.args.t.now c.args.cells.now c.args.i c.requires.0 c.requires.1 c.args.key.now c.args.n c.put_amended.ensures
