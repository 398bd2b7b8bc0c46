-- `booktext::fault::may_stand` meets its contract: it asks what the definition asks. Assumes nothing.
use Rattle.booktext.proofs.fault.may_stand.Goals as goal

pub returns : goal.returns
returns c = rw (c.pick-2.ensures, c.pick.ensures, c.pick-inner.ensures, c.pick-others.ensures, c.is_codes.ensures, c.is_placed.ensures)
