-- `booktext::sets::put_two` meets its contract. Assumes nothing.
use Rattle.ack.proofs.Writing.{◌then◌}
use Rattle.booktext.proofs.sets.put_two.Goals as goal

pub returns : goal.returns
returns c = c.put_byte-next.ensures then c.put_byte.ensures
