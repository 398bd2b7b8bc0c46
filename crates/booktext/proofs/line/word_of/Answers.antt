-- `booktext::line::word_of` meets its contract. Assumes nothing.
use mathlib.Core.Path.{◌∙◌}
use Rattle.booktext.specs.Standing.{words_from}
use Rattle.booktext.proofs.Words.{word-skipped}
use Rattle.booktext.proofs.line.word_of.Goals as goal

pub returns : goal.returns
returns c =
    let args = c.args in
    c.part.ensures ∙ c.next_word.ensures.here ∙ word-skipped args.k (words_from args.t.now args.at) c.skip_words.ensures
