-- `ack::layout::put_component` meets its contract. Assumes nothing.
use Rattle.ack.proofs.Lines.{component-none, component-some}
use Rattle.ack.proofs.Adding.{adds_as, adds_none}
use Rattle.ack.proofs.layout.put_component.Goals as goal

pub returns-then-component-ne0 : goal.returns-then-component-ne0
returns-then-component-ne0 c = adds_as c.put_number.ensures (component-some _ _ c.if-component-ne0.true)

pub returns-else-component-ne0 : goal.returns-else-component-ne0
returns-else-component-ne0 c = adds_none _ (component-none _ _ c.if-component-ne0.false)
