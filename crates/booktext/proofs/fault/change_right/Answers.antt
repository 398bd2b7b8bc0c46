-- `booktext::fault::change_right` meets its contract: it asks what the definition asks. Assumes nothing.
use Rattle.booktext.proofs.fault.change_right.Goals as goal

pub returns : goal.returns
returns c = rw (c.pick.ensures, c.pick-bounded.ensures, c.pick-dropped.ensures, c.pick-codes.ensures, c.is_codes.ensures)
