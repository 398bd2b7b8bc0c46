-- `booktext::fault::is_allowed` meets its contract: it asks what the definition asks. Assumes nothing.
use Rattle.booktext.proofs.fault.is_allowed.Goals as goal

pub returns : goal.returns
returns c = rw c.is_within.ensures
