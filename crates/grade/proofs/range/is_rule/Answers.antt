-- `grade::range::is_rule` meets its contract. Assumes nothing.
use mathlib.Core.Path.{refl}
use Rattle.grade.proofs.range.is_rule.Goals as goal

pub returns : goal.returns
returns c = refl
