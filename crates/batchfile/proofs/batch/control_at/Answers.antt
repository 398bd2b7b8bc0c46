-- `batchfile::batch::control_at` meets its contract. Assumes nothing.
use mathlib.Core.Path.{refl}
use Rattle.batchfile.proofs.batch.control_at.Goals as goal

pub returns : goal.returns
returns c = refl
