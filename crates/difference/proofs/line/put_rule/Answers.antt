-- `difference::line::put_rule` meets its contract. Assumes nothing.
use Rattle.difference.specs.Ruled.{codes_in}
use Rattle.difference.proofs.Lining.{whole-written}
use Rattle.difference.proofs.line.put_rule.Goals as goal

pub returns : goal.returns
returns c =
    whole-written c.args.key.now c.args.mark c.args.n c.args.ruled.now.rule (codes_in c.args.ruled.now)
    c.put_head.ensures c.put_severity.ensures c.put_numbers.ensures c.put_codes.ensures c.put_byte.ensures
