-- `booktext::sets::takes_code` meets its contract. Assumes nothing.
use Rattle.booktext.proofs.Spelling.{takes_named, takes_none}
use Rattle.booktext.proofs.sets.takes_code.Goals as goal

pub returns-then-cell-eq-LESS : goal.returns-then-cell-eq-LESS
returns-then-cell-eq-LESS c = takes_named c.args.t.now c.args.cell c.requires c.args.name.now c.args.code.now c.if-cell-eq-LESS.true c.names_code.ensures

pub returns : goal.returns
returns c = takes_none c.args.t.now c.args.cell c.requires c.args.name.now c.args.code.now c.if-cell-eq-LESS.false
