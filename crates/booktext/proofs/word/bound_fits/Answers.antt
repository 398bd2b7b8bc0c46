-- `booktext::word::bound_fits` meets its contract: each kind by its own. Assumes nothing.
use Rattle.booktext.specs.Words.{bound_fits}
use Rattle.booktext.proofs.word.bound_fits.Goals as goal

pub returns : goal.returns
unfolding bound_fits
returns c = rw (c.pick-2.ensures, c.pick.ensures, c.pick-others.ensures, c.time_digits.ensures, c.is_within.ensures, c.number_in.ensures, c.number_in-least.ensures)
