-- `canonical::show::put_pin` meets its contract. Assumes nothing.
use Rattle.ack.proofs.Adding.{adds_none}
use Rattle.canonical.proofs.PutSets.{pin_none, pin_written}
use Rattle.canonical.proofs.show.put_pin.Goals as goal

pub returns-then-count-ne0 : goal.returns-then-count-ne0
returns-then-count-ne0 c = pin_written c.args.key.now c.args.count c.if-count-ne0.true c.put.ensures c.put_names.ensures c.put_byte.ensures

pub returns-else-count-ne0 : goal.returns-else-count-ne0
returns-else-count-ne0 c = adds_none _ (pin_none c.args.key.now c.args.count c.if-count-ne0.false)
