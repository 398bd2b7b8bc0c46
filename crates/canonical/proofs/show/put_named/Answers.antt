-- `canonical::show::put_named` meets its contract. Assumes nothing.
use Rattle.ack.proofs.Adding.{◌next◌}
use Rattle.canonical.proofs.show.put_named.Goals as goal

pub returns : goal.returns
returns c = c.put_byte.ensures next c.put_set_name.ensures
