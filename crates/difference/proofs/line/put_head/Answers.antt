-- `difference::line::put_head` meets its contract. Assumes nothing.
use Rattle.difference.proofs.Lining.{head-written}
use Rattle.difference.proofs.line.put_head.Goals as goal

pub returns : goal.returns
returns c =
    head-written c.args.key.now c.args.mark c.args.n c.args.rule
    c.put.ensures c.put_byte.ensures c.put_byte-2.ensures c.put_number.ensures c.put_place.ensures c.put_kind.ensures
