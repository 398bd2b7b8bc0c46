-- `line::kept::start` meets its contract. Assumes nothing.
use mathlib.Core.Path.{refl}
use Rattle.line.proofs.Feeding.{fed_start}
use Rattle.line.proofs.kept.start.Goals as goal

pub returns : goal.returns
returns c = fed_start _ refl
