-- `ack::output::Output::put_number` meets its contract. Assumes nothing.
use Rattle.ack.proofs.Adding.{adds_byte}
use Rattle.ack.proofs.output.Output.put_number.Goals as goal

pub returns : goal.returns
returns c = search adds_byte
