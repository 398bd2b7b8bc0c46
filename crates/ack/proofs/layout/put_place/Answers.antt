-- `ack::layout::put_place` meets its contract. Assumes nothing.
use Rattle.ack.proofs.Lines.{place_none, place-some}
use Rattle.ack.proofs.Adding.{◌next◌, adds_as, adds_none}
use Rattle.ack.proofs.layout.put_place.Goals as goal

pub returns-then-finding-ne0 : goal.returns-then-finding-ne0
returns-then-finding-ne0 c =
    adds_as (c.put_name.ensures next c.put_number.ensures next c.put_value.ensures) (place-some _ _ c.if-finding-ne0.true)

pub returns-else-finding-ne0 : goal.returns-else-finding-ne0
returns-else-finding-ne0 c = adds_none _ (place_none _ _ c.if-finding-ne0.false)
