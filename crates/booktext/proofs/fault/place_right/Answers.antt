-- `booktext::fault::place_right` meets its contract. Assumes nothing.
use Rattle.booktext.proofs.fault.place_right.Goals as goal

pub returns : goal.returns
returns c = rw (c.is_place.ensures, c.is_placed.ensures)
