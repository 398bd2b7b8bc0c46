-- `grade::date::is_year_and_pairs` meets its contract: what it returns is put together from what its callees ensure. Assumes nothing.
use Rattle.grade.specs.Values.{is_year_and_pairs}
use Rattle.grade.proofs.date.is_year_and_pairs.Goals as goal

pub returns : goal.returns
unfolding is_year_and_pairs
returns c = cc
