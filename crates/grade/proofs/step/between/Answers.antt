-- `grade::step::between` meets its contract. Assumes nothing.
use Rattle.grade.proofs.step.between.Goals as goal

pub returns : goal.returns
returns c = cc
