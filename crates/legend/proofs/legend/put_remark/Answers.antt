-- `legend::legend::put_remark` meets its contract. Assumes nothing.
use Rattle.legend.proofs.Listing.{remark-none, remark-some}
use Rattle.legend.proofs.legend.put_remark.Goals as goal

pub returns-then-people-eq0 : goal.returns-then-people-eq0
returns-then-people-eq0 c = remark-none c.args.people.now _ c.if-people-eq0.true

pub returns : goal.returns
returns c = remark-some c.args.people.now c.if-people-eq0.false c.put.ensures c.put-2.ensures
