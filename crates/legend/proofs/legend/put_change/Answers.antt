-- `legend::legend::put_change` meets its contract. Assumes nothing.
use Rattle.legend.proofs.Listing.{remark-noted, change_put, change_none}
use Rattle.legend.proofs.legend.put_change.Goals as goal

pub returns-then-says_of : goal.returns-then-says_of
returns-then-says_of c = change_put c.args.t.now c.args.spot c.args.cell c.requires c.says_of.ensures c.says_of-2.ensures c.if-says_of.true (remark-noted c.args.t.now c.args.cell c.people_at.ensures c.put_remark.ensures)

pub returns-else-says_of : goal.returns-else-says_of
returns-else-says_of c = change_none c.args.t.now c.args.spot c.args.cell c.requires c.says_of.ensures c.says_of-2.ensures c.if-says_of.false _
