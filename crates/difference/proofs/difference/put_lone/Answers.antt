-- `difference::difference::put_lone` meets its contract. Assumes nothing.
use Rattle.difference.proofs.Lining.{lone_written}
use Rattle.difference.proofs.difference.put_lone.Goals as goal

pub returns : goal.returns
returns c = lone_written c.args.mark c.args.key.now c.put_byte.ensures c.put.ensures c.put-2.ensures c.put_byte-2.ensures
