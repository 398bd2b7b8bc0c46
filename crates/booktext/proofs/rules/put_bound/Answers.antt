-- `booktext::rules::put_bound` meets its contract. Assumes nothing.
use Rattle.booktext.proofs.Ruling.{bound-written}
use Rattle.booktext.proofs.rules.put_bound.Goals as goal

pub returns : goal.returns
returns c =
    let start = c.args in
    bound-written start.kind start.set start.low start.high c.put_byte-second.ensures c.put_byte-third.ensures c.put_byte.ensures
    c.pick.ensures c.pick-2.ensures c.pick-3.ensures
