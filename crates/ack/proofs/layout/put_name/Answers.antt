-- `ack::layout::put_name` meets its contract. Assumes nothing.
use Rattle.ack.proofs.Lines.{name-none, name-some}
use Rattle.ack.proofs.Adding.{adds_as, adds_none}
use Rattle.ack.proofs.layout.put_name.Goals as goal

pub returns-then-letters-ne0 : goal.returns-then-letters-ne0
returns-then-letters-ne0 c = adds_as c.put.ensures (name-some _ c.letters_of-letters.ensures.0 c.if-letters-ne0.true)

pub returns-else-letters-ne0 : goal.returns-else-letters-ne0
returns-else-letters-ne0 c = adds_none _ (name-none _ c.letters_of-letters.ensures.0 c.if-letters-ne0.false)
