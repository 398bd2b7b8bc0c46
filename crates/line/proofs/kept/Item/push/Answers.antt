-- `line::kept::Item::push` meets its contract. Assumes nothing.
use mathlib.Core.Path.{refl}
use Rattle.line.proofs.Feeding.{items_space, items_other}
use Rattle.line.proofs.kept.Item.push.Goals as goal

pub returns-then-byte-eq32 : goal.returns-then-byte-eq32
returns-then-byte-eq32 c line i k = items_space i c.if-byte-eq32.true k refl

pub returns : goal.returns
returns c line i k = items_other i c.if-byte-eq32.false c.is_within.ensures c.with_digit.ensures
