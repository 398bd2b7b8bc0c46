-- `hl7::locate::locate_span` meets its contract: the place, or the message's start where it is refused. Assumes nothing.
use native.Mathlib.Omega.{arith}
use Rattle.hl7.proofs.Cutting.{spans_as, spans_between}
use Rattle.hl7.proofs.Refusing.{located-sound, located-refused}
use Rattle.hl7.proofs.locate.locate_span.Goals as goal

pub returns-then-is_sound : goal.returns-then-is_sound
returns-then-is_sound c = spans_as (located-sound _ _ _ _ _ (cc) c.delims_of.ensures) c.in_message.ensures

pub returns : goal.returns
returns c = spans_as (located-refused _ _ _ _ _ (cc)) (spans_between _ 0 0 (omega arith) (omega arith))
