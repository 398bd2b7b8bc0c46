-- `booktext::rules::letter_of` meets its contract. Assumes nothing.
use Rattle.booktext.proofs.Numbering.{letter_here, letter_there}
use Rattle.booktext.proofs.rules.letter_of.Goals as goal

pub returns-then-cell-eq0 : goal.returns-then-cell-eq0
returns-then-cell-eq0 g c = letter_here _ _ g.met.N.CellNumber.cell_is _ c.args.cell c.get.ensures c.word_of.ensures c.byte_at.ensures c.if-cell-eq0.true

pub returns : goal.returns
returns g c = letter_there _ _ g.met.N.CellNumber.cell_is _ c.args.cell c.if-cell-eq0.false
