-- `booktext::line::next_word` meets its contract: the word begins where the blanks end. Assumes nothing.
use Rattle.booktext.proofs.Words.{next-word-at}
use Rattle.booktext.proofs.line.next_word.Goals as goal

pub returns : goal.returns
returns c = next-word-at _ _ _ _ c.past_blanks-start.ensures c.word_end-end.ensures
