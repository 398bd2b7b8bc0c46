-- `booktext::change::amend` meets its contract. Assumes nothing.
use mathlib.Core.Path.{refl}
use Rattle.booktext.proofs.Changing.{amend-none}
use Rattle.booktext.proofs.Numbering.{severity_here, bound_by_it}
use Rattle.booktext.proofs.change.amend.Goals as goal

pub returns-then-says_of : goal.returns-then-says_of
returns-then-says_of g c = severity_here _ _ g.met.N.CellNumber.cell_is _ c.args.cell c.get.ensures c.word_of.ensures c.byte_at-given.ensures c.args.rule _ c.requires.1 c.says_of.ensures c.if-says_of.true

pub returns-then-says_of-2 : goal.returns-then-says_of-2
returns-then-says_of-2 g c = bound_by_it _ _ g.met.N.CellNumber.cell_is _ c.args.cell c.args.rule _ c.requires.1 c.says_of.ensures c.if-says_of.false c.says_of-2.ensures c.requires.0 c.if-says_of-2.true

pub returns : goal.returns
returns g c = (amend-none _ _ _ _ c.requires.1 c.says_of.ensures c.if-says_of.false c.says_of-2.ensures c.if-says_of-2.false, refl, refl)
