-- `line::kept::State::push` meets its contract. Assumes nothing.
use Rattle.line.proofs.Feeding.{fed_after, fed_feed, fed_more}
use Rattle.line.proofs.kept.State.push.Goals as goal

pub returns-then-self : goal.returns-then-self
returns-then-self c input f = fed_after f _ c.if-self.true

pub returns-then-byte-eq10 : goal.returns-then-byte-eq10
returns-then-byte-eq10 c input f = fed_feed f _ c.if-self.false c.if-byte-eq10.true

pub returns : goal.returns
returns c input f =
    fed_more f _ c.if-self.false c.if-byte-eq10.false (c.push.ensures _ f.head) (c.push-2.ensures _ f.item f.head.count)
