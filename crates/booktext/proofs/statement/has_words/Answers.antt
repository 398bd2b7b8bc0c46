-- `booktext::statement::has_words` meets its contract. Assumes nothing.
use Rattle.booktext.proofs.Stating.{words-there}
use Rattle.booktext.proofs.statement.has_words.Goals as goal

pub returns : goal.returns
returns c = words-there c.args.t.now c.args.at c.next_word-first.result c.next_word-first.ensures
