-- `booktext::fault::severity_right` meets its contract. Assumes nothing.
use Rattle.booktext.proofs.fault.severity_right.Goals as goal

pub returns : goal.returns
returns c = rw (c.pick.ensures, c.is_severity_word-2.ensures, c.is_rule.ensures, c.is_severity_word.ensures)
