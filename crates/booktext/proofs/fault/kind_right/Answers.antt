-- `booktext::fault::kind_right` meets its contract. Assumes nothing.
use Rattle.booktext.proofs.fault.kind_right.Goals as goal

pub returns : goal.returns
returns c = rw (c.kind_number.ensures.0, c.is_placed.ensures)
