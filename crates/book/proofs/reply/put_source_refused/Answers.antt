-- `book::reply::put_source_refused` meets its contract. Assumes nothing.
use Rattle.ack.proofs.Writing.{wrote_as}
use Rattle.book.proofs.Replying.{source-output, source-other}
use Rattle.book.proofs.reply.put_source_refused.Goals as goal

pub returns-in-ShortOutput : goal.returns-in-ShortOutput
returns-in-ShortOutput c = wrote_as c.put_refused.ensures (source-output c.args.fault c.in-ShortOutput.is)

pub returns-in_default : goal.returns-in_default
returns-in_default c = wrote_as c.put_refused-in_default.ensures (source-other c.args.fault c.in_default.not-ShortOutput)
