-- `batchfile::batch::answer_batch` meets its contract: 14, or what the messages are answered. Assumes nothing.
use mathlib.Core.Path.{ap}
use mathlib.Core.Bool.{not}
use native.Mathlib.Omega.{arith}
use Rattle.batchfile.proofs.Answering.{too_long, asked_wrong, asked_right, right-starts, batch_wrong, batch_right}
use Rattle.batchfile.proofs.batch.answer_batch.Goals as goal

pub returns-then-f-gt-FILE_LIMIT : goal.returns-then-f-gt-FILE_LIMIT
returns-then-f-gt-FILE_LIMIT c = batch_wrong _ _ _ _ _ (too_long _ _ c.if-f-gt-FILE_LIMIT.true)

pub is_right-requires : goal.is_right-requires
is_right-requires c = (c.frame_of-frame.ensures, c.if-f-gt-FILE_LIMIT.false, omega arith)

pub returns-then-not-is_right : goal.returns-then-not-is_right
returns-then-not-is_right c = batch_wrong _ _ _ _ _ (asked_wrong _ _ c.is_right.ensures (ap not c.if-not-is_right.true))

pub answer_messages-requires : goal.answer_messages-requires
answer_messages-requires c = right-starts _ _ _ c.frame_of-frame.ensures c.if-f-gt-FILE_LIMIT.false (asked_right _ _ c.is_right.ensures (ap not c.if-not-is_right.false))

pub returns : goal.returns
returns c = batch_right _ _ _ _ _ _ (asked_right _ _ c.is_right.ensures (ap not c.if-not-is_right.false)) c.frame_of-frame.ensures c.answer_messages.ensures
