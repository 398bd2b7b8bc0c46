-- `grade::date::is_fraction` meets its contract: what it returns is put together from what its callees ensure. Assumes nothing.
use Rattle.grade.specs.Values.{is_fraction}
use Rattle.grade.proofs.date.is_fraction.Goals as goal

pub returns : goal.returns
unfolding is_fraction
returns c = cc
