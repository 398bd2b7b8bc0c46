-- `grade::range::at_place` meets its contract. Assumes nothing.
use Rattle.grade.proofs.range.at_place.Goals as goal

pub returns : goal.returns
returns c = rw (c.at_segment.ensures, c.is_within.ensures, c.is_number.ensures)
