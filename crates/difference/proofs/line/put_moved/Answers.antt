-- `difference::line::put_moved` meets its contract. Assumes nothing.
use Rattle.ack.proofs.Adding.{adds_none}
use Rattle.difference.proofs.Lining.{moved-not, moved-written}
use Rattle.difference.proofs.line.put_moved.Goals as goal

pub returns-then-n-m : goal.returns-then-n-m
returns-then-n-m c = adds_none _ (moved-not c.args.key.now c.args.n c.args.rule c.args.m c.if-n-m.true)

pub returns : goal.returns
returns c =
    moved-written c.args.key.now c.args.n c.args.rule c.args.m c.if-n-m.false
    c.put.ensures c.put-2.ensures c.put_number.ensures c.put-3.ensures c.put_number-2.ensures c.put_place.ensures c.put_kind.ensures c.put_byte.ensures
