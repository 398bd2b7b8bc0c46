-- `booktext::rules::put_made` meets its contract. Assumes nothing.
use Rattle.booktext.proofs.Ruling.{asked_rule, made-written, none_written}
use Rattle.booktext.proofs.rules.put_made.Goals as goal

pub put_rule-requires : goal.put_rule-requires
put_rule-requires c = (c.requires, asked_rule _ _ c.verb_at.ensures.0 c.is_rule.ensures c.if-is_rule.true)

pub returns-then-is_rule : goal.returns-then-is_rule
returns-then-is_rule c = made-written _ _ _ c.verb_at.ensures.0 c.is_rule.ensures c.if-is_rule.true c.put_rule.ensures

pub returns : goal.returns
returns c = none_written _ _ _ c.verb_at.ensures.0 c.is_rule.ensures c.if-is_rule.false c.put.ensures
