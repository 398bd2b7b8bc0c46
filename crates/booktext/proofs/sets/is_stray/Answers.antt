-- `booktext::sets::is_stray` meets its contract. Assumes nothing.
use Rattle.booktext.proofs.Setting.{stray_by_number, stray_none}
use Rattle.booktext.proofs.sets.is_stray.Goals as goal

pub returns-then-is_codes : goal.returns-then-is_codes
returns-then-is_codes c = stray_by_number c.args.t.now c.args.names.now c.args.cell c.requires c.is_codes.ensures c.if-is_codes.true c.word_of.ensures c.number_of.ensures

pub returns : goal.returns
returns c = stray_none c.args.t.now c.args.names.now c.args.cell c.requires c.is_codes.ensures c.if-is_codes.false
