-- `difference::numbers::same_numbers` meets its contract. Assumes nothing.
use Rattle.difference.proofs.Lining.{numbers-same}
use Rattle.difference.proofs.numbers.same_numbers.Goals as goal

pub returns : goal.returns
returns c = numbers-same c.args.kind c.args.other c.low_of.ensures c.low_of-2.ensures c.high_of.ensures c.high_of-2.ensures
