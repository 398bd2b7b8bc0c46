-- `grade::step::start` meets its contract. Assumes nothing.
use Rattle.grade.proofs.step.start.Goals as goal

pub returns : goal.returns
returns c = cc
