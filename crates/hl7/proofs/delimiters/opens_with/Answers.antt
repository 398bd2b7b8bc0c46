-- `hl7::delimiters::opens_with` meets its contract: it asks what the definition asks. Assumes nothing.
use Rattle.hl7.proofs.Delimiting.{asked_opens}
use Rattle.hl7.proofs.delimiters.opens_with.Goals as goal

pub returns : goal.returns
returns c = asked_opens _ _ c.delims_of-d.ensures c.begins_with.ensures c.may_cut.ensures c.byte_at.ensures
