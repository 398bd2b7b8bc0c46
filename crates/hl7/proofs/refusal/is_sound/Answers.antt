-- `hl7::refusal::is_sound` meets its contract: it reads the answer of `check`. Assumes nothing.
use mathlib.Core.Path.{◌∙◌}
use Rattle.hl7.proofs.Refusing.{sound-is}
use Rattle.hl7.proofs.refusal.is_sound.Goals as goal

pub returns : goal.returns
returns c = c.is_ok.ensures.value ∙ sound-is _ c.check.result c.check.ensures
