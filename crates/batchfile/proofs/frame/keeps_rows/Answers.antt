-- `batchfile::frame::keeps_rows` meets its contract: nothing is found that row 3 or row 5 refuses. Assumes nothing.
use Rattle.batchfile.proofs.Framing.{asked_rows}
use Rattle.batchfile.proofs.frame.keeps_rows.Goals as goal

pub returns : goal.returns
returns c = asked_rows _ _ _ _ c.wrong_byte.ensures c.is_none.ensures c.wrong_segment.ensures c.is_none-2.ensures
