-- `ack::layout::own_byte` meets its contract: what is none of the five stands as it is. Assumes nothing.
use Rattle.ack.proofs.Lines.{own_other}
use Rattle.ack.proofs.layout.own_byte.Goals as goal

pub returns-in_default : goal.returns-in_default
returns-in_default c = search own_other
