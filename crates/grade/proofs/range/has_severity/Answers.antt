-- `grade::range::has_severity` meets its contract. Assumes nothing.
use Rattle.grade.proofs.range.has_severity.Goals as goal

pub returns : goal.returns
returns c = rw c.is_error.ensures
