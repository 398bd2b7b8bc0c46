-- `canonical::show::put_rule` meets its contract. Assumes nothing.
use Rattle.canonical.proofs.PutRules.{rule-written}
use Rattle.canonical.proofs.show.put_rule.Goals as goal

pub returns : goal.returns
returns c =
    rule-written c.args.key.now c.args.again c.args.rule
    c.put_verb.ensures c.put_place.ensures c.put_kind.ensures c.put_severity.ensures c.put_bound.ensures c.put_byte.ensures
