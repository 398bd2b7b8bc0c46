-- `legend::legend::is_staying` meets its contract. Assumes nothing.
use Rattle.legend.proofs.Listing.{stays_if, stays-not}
use Rattle.legend.proofs.legend.is_staying.Goals as goal

pub returns-then-is_rule : goal.returns-then-is_rule
returns-then-is_rule c = λ t m. stays_if t c.args.cells.now c.args.i m c.requires c.is_rule.ensures c.if-is_rule.true c.is_dropped.ensures

pub returns : goal.returns
returns c = λ t m. stays-not t c.args.cells.now c.args.i m c.requires c.is_rule.ensures c.if-is_rule.false
