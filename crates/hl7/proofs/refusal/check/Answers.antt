-- `hl7::refusal::check` meets its contract: rows 1 to 3, and then those of the form. Assumes nothing.
use mathlib.Core.Path.{◌∙◌}
use native.Mathlib.Omega.{arith}
use Rattle.hl7.proofs.Refusing.{message_empty, message-long, message-byte, message_form}
use Rattle.hl7.proofs.refusal.check.Goals as goal

pub returns-then-n-eq0 : goal.returns-then-n-eq0
returns-then-n-eq0 c = message_empty _ c.if-n-eq0.true

pub returns-then-n-gt-MESSAGE_LIMIT : goal.returns-then-n-gt-MESSAGE_LIMIT
returns-then-n-gt-MESSAGE_LIMIT c = message-long _ c.if-n-eq0.false c.if-n-gt-MESSAGE_LIMIT.true

pub returns-in-Some : goal.returns-in-Some
returns-in-Some c = message-byte _ (λ e. omega (arith, e)) (omega arith) (cc)

pub returns-in-None : goal.returns-in-None
returns-in-None c = c.check_form.ensures ∙ message_form _ (λ e. omega (arith, e)) (omega arith) (cc)
