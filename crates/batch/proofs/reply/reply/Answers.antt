-- `batch::reply::reply` meets its contract. Assumes nothing.
use Rattle.line.proofs.Replying.{replies_good}
use Rattle.batch.proofs.Replying.{answers-stamp}
use Rattle.batch.proofs.reply.reply.Goals as goal

pub returns : goal.returns
returns c input f = replies_good _ (answers-stamp _ _ _) _ _ _ (c.in-Some.ensures input f) c.front-stamp.ensures c.answer_batch-answer.ensures c.put_answer.ensures
