-- `grade::header::header_of` meets its contract: four checks. Assumes nothing.
use Rattle.grade.specs.Header.{header_of}
use Rattle.grade.proofs.header.header_of.Goals as goal

pub returns : goal.returns
unfolding header_of
returns c = cc
