-- `difference::line::put_numbers` meets its contract: each arm writes the numbers of its own kinds. Assumes nothing.
use mathlib.Core.Logic.{⊎_elim}
use Rattle.canonical.proofs.PutRules.{none_written, one_written}
use Rattle.difference.proofs.line.put_numbers.Goals as goal

pub returns-in-Required : goal.returns-in-Required
returns-in-Required c =
    let none = none_written c.args.out.now in
    ⊎_elim (λ e. rw e none) (⊎_elim (λ e. rw e none) (⊎_elim (λ e. rw e none) (λ e. rw e.1 none))) c.in-Required.is

pub returns-in-Length : goal.returns-in-Length
returns-in-Length c = rw c.in-Length.is c.put_range.ensures

pub returns-in-Time : goal.returns-in-Time
returns-in-Time c = rw c.in-Time.is (one_written c.put_number.ensures)
