-- `difference::line::put_code` meets its contract. Assumes nothing.
use Rattle.ack.proofs.Adding.{◌next◌}
use Rattle.difference.proofs.line.put_code.Goals as goal

pub returns : goal.returns
returns c = c.put_byte.ensures next c.put_field.ensures
