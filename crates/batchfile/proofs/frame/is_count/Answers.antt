-- `batchfile::frame::is_count` meets its contract. Assumes nothing.
use Rattle.batchfile.proofs.Framing.{asked_count}
use Rattle.batchfile.proofs.frame.is_count.Goals as goal

pub returns : goal.returns
returns c = asked_count _ _ c.requires c.read_digits-read.ensures
