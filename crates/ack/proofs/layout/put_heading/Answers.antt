-- `ack::layout::put_heading` meets its contract. Assumes nothing.
use Rattle.ack.specs.Pieces.{heading}
use Rattle.ack.proofs.Adding.{◌next◌}
use Rattle.ack.proofs.layout.put_heading.Goals as goal

pub returns : goal.returns
unfolding heading
returns c = search ◌next◌
