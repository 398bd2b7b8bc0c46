-- `hl7::delimiters::is_standard` meets its contract: the derived comparison of the five. Assumes nothing.
use mathlib.Core.Path.{◌∙◌}
use Rattle.hl7.proofs.Delimiting.{asked_standard}
use Rattle.hl7.proofs.delimiters.is_standard.Goals as goal

pub returns : goal.returns
returns c = c.eq.ensures ∙ asked_standard _
