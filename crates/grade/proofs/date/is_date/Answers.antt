-- `grade::date::is_date` meets its contract: what it returns is put together from what its callees ensure. Assumes nothing.
use Rattle.grade.specs.Values.{is_date}
use Rattle.grade.proofs.date.is_date.Goals as goal

pub returns : goal.returns
unfolding is_date
returns c = cc
