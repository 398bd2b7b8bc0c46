-- `booktext::refer::set_word` meets its contract. Assumes nothing.
use Rattle.booktext.proofs.refer.set_word.Goals as goal

pub returns : goal.returns
returns c = rw (c.pick.ensures, c.before_bound.ensures.0, c.is_codes.ensures)
