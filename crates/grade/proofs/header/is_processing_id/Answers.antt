-- `grade::header::is_processing_id` meets its contract: three comparisons. Assumes nothing.
use Rattle.grade.specs.Header.{is_processing_id}
use Rattle.grade.proofs.header.is_processing_id.Goals as goal

pub returns : goal.returns
unfolding is_processing_id
returns c = cc
