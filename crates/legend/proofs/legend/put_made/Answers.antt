-- `legend::legend::put_made` meets its contract. Assumes nothing.
use Rattle.legend.proofs.Listing.{stays-rule, made-listed, none-listed}
use Rattle.legend.proofs.legend.put_made.Goals as goal

pub is_staying-requires : goal.is_staying-requires
is_staying-requires c = c.requires.1

pub put_line-requires : goal.put_line-requires
put_line-requires c = (c.requires.0, c.requires.1, stays-rule c.args.t.now c.args.cells.now c.args.i c.requires.0 c.requires.1 (c.is_staying.ensures c.args.t.now c.requires.0) c.if-is_staying.true)

pub returns-then-is_staying : goal.returns-then-is_staying
returns-then-is_staying c = made-listed c.args.t.now c.args.cells.now c.args.i c.requires.0 c.requires.1 c.args.key.now c.args.n (c.is_staying.ensures c.args.t.now c.requires.0) c.if-is_staying.true c.put_line.ensures

pub returns-else-is_staying : goal.returns-else-is_staying
returns-else-is_staying c = none-listed c.args.t.now c.args.cells.now c.args.i c.requires.0 c.requires.1 c.args.key.now c.args.n _ (c.is_staying.ensures c.args.t.now c.requires.0) c.if-is_staying.false
