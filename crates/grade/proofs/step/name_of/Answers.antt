-- `grade::step::name_of` meets its contract: its three letters. Assumes nothing.
use Rattle.grade.proofs.step.name_of.Goals as goal

pub returns : goal.returns
returns c = cc
