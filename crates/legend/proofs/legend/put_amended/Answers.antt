-- `legend::legend::put_amended` meets its contract. Assumes nothing.
use mathlib.Core.Path.{◌∙◌, ap}
use Rattle.booktext.specs.Lines.{makes_rule}
use Rattle.booktext.proofs.Changing.{amended-rule}
use Rattle.legend.proofs.Listing.{remark-noted, parts_listed}
use Rattle.legend.proofs.legend.put_amended.Goals as goal

pub amended-rule-requires : goal.amended-rule-requires
amended-rule-requires c = (c.requires.1, c.requires.0)

pub put_rule-requires : goal.put_rule-requires
put_rule-requires c = ap makes_rule c.amended-rule.ensures.0 ∙ amended-rule c.args.spot _ _ ∙ c.requires.1

pub put_changes-requires : goal.put_changes-requires
put_changes-requires c = c.requires.0

pub returns : goal.returns
returns c = parts_listed c.args.t.now c.args.key.now c.args.n c.args.spot _ _ _ c.amended-rule.ensures.0 c.put_rule.ensures (remark-noted c.args.t.now c.args.cell c.people_at.ensures c.put_remark.ensures) c.put_changes.ensures c.put_byte.ensures
