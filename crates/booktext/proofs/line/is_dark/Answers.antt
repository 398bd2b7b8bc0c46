-- `booktext::line::is_dark` meets its contract. Assumes nothing.
use mathlib.Core.Path.{ap}
use mathlib.Core.Bool.{Bool, not, ◌||◌}
use Rattle.booktext.specs.Standing.{ends}
use Rattle.booktext.proofs.line.is_dark.Goals as goal

pub returns : goal.returns
returns c = ap (λ (b : Bool). not (b || ends c.args.x)) c.is_blank.ensures
