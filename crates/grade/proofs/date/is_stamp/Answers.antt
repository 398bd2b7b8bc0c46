-- `grade::date::is_stamp` meets its contract: what it returns is put together from what its callees ensure. Assumes nothing.
use Rattle.grade.specs.Values.{is_stamp}
use Rattle.grade.proofs.date.is_stamp.Goals as goal

pub returns : goal.returns
unfolding is_stamp
returns c = cc
