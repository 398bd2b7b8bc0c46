-- `difference::line::put_changes` meets its contract. Assumes nothing.
use Rattle.difference.specs.Ruled.{codes_in}
use Rattle.difference.proofs.Lining.{changes-written}
use Rattle.difference.proofs.line.put_changes.Goals as goal

pub returns : goal.returns
returns c =
    let codes = codes_in c.args.ruled.now in
    let others = codes_in c.args.other.now in
    changes-written c.args.key.now c.args.n c.args.ruled.now.rule c.args.m c.args.other.now.rule codes others
    c.put_severities.ensures c.put_bounds.ensures c.put_sets.ensures c.put_moved.ensures
