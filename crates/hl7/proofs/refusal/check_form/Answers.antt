-- `hl7::refusal::check_form` meets its contract: rows 4 and 5. Assumes nothing.
use Rattle.hl7.proofs.Refusing.{form_none, form_wrong, form_sound}
use Rattle.hl7.proofs.refusal.check_form.Goals as goal

pub returns-then-not-opens_with : goal.returns-then-not-opens_with
returns-then-not-opens_with c = form_none _ (cc)

pub returns-in-Some : goal.returns-in-Some
returns-in-Some c = form_wrong _ (cc) c.delims_of.ensures (cc)

pub returns-in-None : goal.returns-in-None
returns-in-None c = form_sound _ (cc) c.delims_of.ensures (cc)
