-- `grade::range::order_in_range` meets its contract. Assumes nothing.
use Rattle.grade.proofs.range.order_in_range.Goals as goal

pub returns : goal.returns
returns c = rw (c.is_error.ensures, c.at_segment.ensures, c.at_end.ensures)
