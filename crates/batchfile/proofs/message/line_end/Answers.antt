-- `batchfile::message::line_end` meets its contract. Assumes nothing.
use Rattle.batchfile.proofs.Gathering.{line-ended, line_open}
use Rattle.batchfile.proofs.message.line_end.Goals as goal

pub returns-then-end-f : goal.returns-then-end-f
returns-then-end-f c = line-ended _ _ c.find_far-end.ensures c.if-end-f.true

pub returns : goal.returns
returns c = line_open _ _ c.find_far-end.ensures c.if-end-f.false
