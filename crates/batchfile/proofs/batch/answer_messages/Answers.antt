-- `batchfile::batch::answer_messages` meets its contract: what is kept and what is left are all. Assumes nothing.
use mathlib.Core.Path.{refl}
use native.Mathlib.Omega.{arith}
use Rattle.batchfile.proofs.Measuring.{walked_none, walked_all}
use Rattle.batchfile.proofs.Answering.{joined_empty, joined-left}
use Rattle.batchfile.proofs.batch.answer_messages.Goals as goal

pub returns-then-count-eq0 : goal.returns-then-count-eq0
returns-then-count-eq0 c = joined_empty _ _ _ _ _ (walked_all _ _ _ _ (walked_none _ _ _ c.requires.0) (omega (arith, c.if-count-eq0.true)))

pub returns : goal.returns
returns c = joined-left _ _ _ _ _ _ _ c.args.out.now _ c.keep_front-kept.ensures refl c.answer_left.ensures
