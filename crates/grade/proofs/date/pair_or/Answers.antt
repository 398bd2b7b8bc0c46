-- `grade::date::pair_or` meets its contract: what it returns is put together from what its callees ensure. Assumes nothing.
use Rattle.grade.proofs.date.pair_or.Goals as goal

pub returns : goal.returns
returns c = cc
