-- `grade::range::at_segment` meets its contract. Assumes nothing.
use Rattle.grade.proofs.range.at_segment.Goals as goal

pub returns : goal.returns
returns c = rw (c.is_within.ensures, c.is_number.ensures)
