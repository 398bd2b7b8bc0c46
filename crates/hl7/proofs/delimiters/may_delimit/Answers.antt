-- `hl7::delimiters::may_delimit` meets its contract: it asks what the definition asks. Assumes nothing.
use Rattle.hl7.proofs.Delimiting.{asked_byte}
use Rattle.hl7.proofs.delimiters.may_delimit.Goals as goal

pub returns : goal.returns
returns c = asked_byte _ c.is_ascii_alphabetic-letter.ensures.value c.is_ascii_digit-digit.ensures.value c.is_within.ensures
