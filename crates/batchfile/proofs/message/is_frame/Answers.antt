-- `batchfile::message::is_frame` meets its contract: it asks for each of the four names. Assumes nothing.
use Rattle.batchfile.proofs.Gathering.{asked_frame}
use Rattle.batchfile.proofs.message.is_frame.Goals as goal

pub returns : goal.returns
returns c = asked_frame _ c.begins_with.ensures c.begins_with-2.ensures c.begins_with-3.ensures c.begins_with-4.ensures
