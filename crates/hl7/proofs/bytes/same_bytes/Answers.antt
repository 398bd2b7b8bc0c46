-- `hl7::bytes::same_bytes` meets its contract: std's word is the document's. Assumes nothing.
use mathlib.Core.Path.{◌∙◌}
use Rattle.hl7.proofs.Comparing.{same_slices}
use Rattle.hl7.proofs.bytes.same_bytes.Goals as goal

pub returns : goal.returns
returns c = c.eq.ensures ∙ same_slices _ _
