-- `canonical::show::put_bound` meets its contract. Assumes nothing.
use mathlib.Core.Logic.{⊎_elim}
use Rattle.canonical.proofs.PutRules.{one_written, none_written}
use Rattle.canonical.proofs.show.put_bound.Goals as goal

pub returns-in-Required : goal.returns-in-Required
returns-in-Required c = ⊎_elim (λ e. rw e (none_written _)) (⊎_elim (λ e. rw e (none_written _)) (λ e. rw e (none_written _))) c.in-Required.is

pub returns-in-Length : goal.returns-in-Length
returns-in-Length c = rw c.in-Length.is c.put_range.ensures

pub returns-in-Time : goal.returns-in-Time
returns-in-Time c = rw c.in-Time.is (one_written c.put_number.ensures)

pub returns-in-Code : goal.returns-in-Code
returns-in-Code c = rw c.in-Code.is (one_written c.put_named.ensures)
