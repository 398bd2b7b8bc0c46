-- `booktext::fault::version_right` meets its contract. Assumes nothing.
use Rattle.booktext.proofs.fault.version_right.Goals as goal

pub returns : goal.returns
returns c = rw c.same_bytes.ensures
