-- `hl7::refusal::wrong_byte` meets its contract: where every byte is allowed none is wrong. Assumes nothing.
use mathlib.Core.Path.{sym, ap, ◌∙◌}
use Rattle.hl7.specs.Refusals.{first_of}
use Rattle.hl7.proofs.Refusing.{all_right}
use Rattle.hl7.proofs.refusal.wrong_byte.Goals as goal

pub returns-then-all_allowed : goal.returns-then-all_allowed
returns-then-all_allowed c = sym (ap first_of (all_right _ 0 (sym c.all_allowed.ensures ∙ c.if-all_allowed.true)))
