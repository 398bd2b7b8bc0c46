-- `grade::header::later_wrong` meets its contract. Assumes nothing.
use Rattle.grade.proofs.Heading.{later-found}
use Rattle.grade.proofs.header.later_wrong.Goals as goal

pub returns : goal.returns
returns c = later-found _ _ _ _
