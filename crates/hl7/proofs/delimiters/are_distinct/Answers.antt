-- `hl7::delimiters::are_distinct` meets its contract: the ten comparisons. Assumes nothing.
use Rattle.hl7.proofs.Delimiting.{asked_distinct}
use Rattle.hl7.proofs.delimiters.are_distinct.Goals as goal

pub returns : goal.returns
returns c = asked_distinct _
