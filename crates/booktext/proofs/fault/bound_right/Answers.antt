-- `booktext::fault::bound_right` meets its contract. Assumes nothing.
use Rattle.booktext.proofs.fault.bound_right.Goals as goal

pub returns : goal.returns
returns c = rw (c.bound_fits.ensures, c.kind_number.ensures.0, c.is_rule.ensures, c.saturating_sub-count.ensures, c.before_bound.ensures.0)
