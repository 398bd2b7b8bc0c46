-- `batchfile::batch::Shared::answer_at` meets its contract: what is written at the start of a part is written from there on. Assumes nothing.
use native.Mathlib.Omega.{arith}
use Rattle.batchfile.proofs.Joining.{answers_at}
use Rattle.batchfile.proofs.batch.Shared.answer_at.Goals as goal

pub returns : goal.returns
returns c = answers_at _ _ _ _ c.args.out.now c.args.at c.requires (omega arith) _ c.answer_indexed.ensures
