-- `booktext::fault::key_right` meets its contract. Assumes nothing.
use Rattle.booktext.proofs.fault.key_right.Goals as goal

pub returns : goal.returns
returns c = rw c.is_text.ensures
