-- `hl7::refusal::has_form` meets its contract: it asks what the definition asks. Assumes nothing.
use Rattle.hl7.specs.Refusals.{has_form}
use Rattle.hl7.proofs.refusal.has_form.Goals as goal

pub returns : goal.returns
unfolding has_form
returns c = cc
