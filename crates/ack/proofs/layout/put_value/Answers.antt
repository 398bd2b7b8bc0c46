-- `ack::layout::put_value` meets its contract. Assumes nothing.
use Rattle.ack.proofs.Lines.{value_none, value-some}
use Rattle.ack.proofs.Adding.{◌next◌, adds_as, adds_none}
use Rattle.ack.proofs.layout.put_value.Goals as goal

pub returns-then-finding-ne0 : goal.returns-then-finding-ne0
returns-then-finding-ne0 c =
    adds_as (c.put_number.ensures next c.put_number-then-finding-ne0.ensures next c.put_component.ensures) (value-some _ _ c.if-finding-ne0.true)

pub returns-else-finding-ne0 : goal.returns-else-finding-ne0
returns-else-finding-ne0 c = adds_none _ (value_none _ _ c.if-finding-ne0.false)
