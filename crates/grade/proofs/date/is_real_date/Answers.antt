-- `grade::date::is_real_date` meets its contract: what it returns is put together from what its callees ensure. Assumes nothing.
use Rattle.grade.specs.Calendar.{is_real_date}
use Rattle.grade.proofs.date.is_real_date.Goals as goal

pub returns : goal.returns
unfolding is_real_date
returns c = rw c.month_length-days.ensures
