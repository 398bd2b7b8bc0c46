-- `batchfile::frame::frame_of` meets its contract. Assumes nothing.
use Rattle.batchfile.proofs.Framing.{frame_stands}
use Rattle.batchfile.proofs.frame.frame_of.Goals as goal

pub returns : goal.returns
returns c = frame_stands _ c.line_end-bhs.ensures c.line_end-start.ensures c.body_from-body.ensures c.line_end-fts.ensures c.line_end-over.ensures
