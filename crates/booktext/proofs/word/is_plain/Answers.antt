-- `booktext::word::is_plain` meets its contract: it asks what the definition asks. Assumes nothing.
use Rattle.booktext.proofs.word.is_plain.Goals as goal

pub returns : goal.returns
returns c = rw c.is_within.ensures
