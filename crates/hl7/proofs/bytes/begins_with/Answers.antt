-- `hl7::bytes::begins_with` meets its contract: std's word is the document's. Assumes nothing.
use mathlib.Core.Path.{◌∙◌}
use Rattle.hl7.proofs.Comparing.{begins_slice}
use Rattle.hl7.proofs.bytes.begins_with.Goals as goal

pub returns : goal.returns
returns c = c.starts_with.ensures.value ∙ begins_slice _ _
