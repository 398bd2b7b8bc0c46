-- `booktext::fault::count_right` meets its contract: it asks what the definition asks. Assumes nothing.
use Rattle.booktext.proofs.fault.count_right.Goals as goal

pub returns : goal.returns
returns c = rw (c.pick.ensures, c.is_rule.ensures, c.pick-used.ensures, c.pick-others.ensures, c.change_right.ensures)
