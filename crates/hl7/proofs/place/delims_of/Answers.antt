-- `hl7::place::delims_of` meets its contract: bytes 3 to 7. Assumes nothing.
use Rattle.hl7.proofs.Placing.{delims_are}
use Rattle.hl7.proofs.place.delims_of.Goals as goal

pub returns : goal.returns
returns c = delims_are _ c.byte_at.ensures c.byte_at-2.ensures c.byte_at-3.ensures c.byte_at-4.ensures c.byte_at-5.ensures
