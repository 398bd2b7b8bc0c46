-- `canonical::show::put_range` meets its contract. Assumes nothing.
use Rattle.canonical.proofs.PutRules.{range_written}
use Rattle.canonical.proofs.show.put_range.Goals as goal

pub returns : goal.returns
returns c = range_written c.args.low c.args.high c.put_number.ensures c.put_number-2.ensures
