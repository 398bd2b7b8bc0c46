-- `canonical::show::put_set_name` meets its contract. Assumes nothing.
use Rattle.ack.proofs.Adding.{◌next◌}
use Rattle.canonical.proofs.show.put_set_name.Goals as goal

pub returns : goal.returns
returns c = c.put.ensures next c.put_number.ensures
