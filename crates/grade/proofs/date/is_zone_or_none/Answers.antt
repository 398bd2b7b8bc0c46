-- `grade::date::is_zone_or_none` meets its contract: what it returns is put together from what its callees ensure. Assumes nothing.
use Rattle.grade.specs.Values.{is_zone_or_none}
use Rattle.grade.proofs.date.is_zone_or_none.Goals as goal

pub returns : goal.returns
unfolding is_zone_or_none
returns c = cc
