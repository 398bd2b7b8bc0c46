-- `booktext::statement::verb_at` meets its contract. Assumes nothing.
use mathlib.Core.Path.{ap, ◌∙◌}
use Rattle.booktext.specs.Lines.{verb_of}
use Rattle.booktext.proofs.statement.verb_at.Goals as goal

pub returns : goal.returns
returns c = (c.verb_of.ensures.0 ∙ ap verb_of c.word_of.ensures, c.verb_of.ensures.1)
