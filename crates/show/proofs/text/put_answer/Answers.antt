-- `show::text::put_answer` meets its contract. Assumes nothing.
use mathlib.Core.Path.{refl}
use Rattle.grade.proofs.Telling.{refusal_some}
use Rattle.show.proofs.Showing.{printed-ack, printed-refusal}
use Rattle.show.proofs.text.put_answer.Goals as goal

pub returns-in-Ok : goal.returns-in-Ok
returns-in-Ok c = rw c.in-Ok.is (printed-ack _ refl c.turn_lines.ensures)

pub returns-in-Err : goal.returns-in-Err
returns-in-Err c = rw c.in-Err.is (printed-refusal _ (refusal_some c.in-Err.refusal) c.put_refusal.ensures)
