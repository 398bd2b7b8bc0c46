-- `booktext::word::is_severity_word` meets its contract. Assumes nothing.
use Rattle.booktext.specs.Words.{is_severity_word}
use Rattle.booktext.proofs.word.is_severity_word.Goals as goal

pub returns : goal.returns
unfolding is_severity_word
returns c = rw (c.is_severity.ensures, c.byte_at.ensures)
