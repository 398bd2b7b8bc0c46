-- `booktext::word::is_text` meets its contract. Assumes nothing.
use Rattle.booktext.proofs.word.is_text.Goals as goal

pub returns : goal.returns
returns c = rw c.all_plain.ensures
