-- `grade::value::is_number` meets its contract: what it returns is put together from what its callees ensure. Assumes nothing.
use Rattle.grade.specs.Values.{is_number}
use Rattle.grade.proofs.value.is_number.Goals as goal

pub returns : goal.returns
unfolding is_number
returns c = cc
