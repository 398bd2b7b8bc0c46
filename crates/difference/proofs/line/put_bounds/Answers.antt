-- `difference::line::put_bounds` meets its contract. Assumes nothing.
use mathlib.Core.Path.{sym, ◌∙◌}
use Rattle.ack.proofs.Adding.{adds_none}
use Rattle.difference.proofs.Lining.{unless-skipped, numbers_other}
use Rattle.difference.proofs.line.put_bounds.Goals as goal

pub returns-then-same_numbers : goal.returns-then-same_numbers
returns-then-same_numbers c = adds_none _ (unless-skipped _ (sym c.same_numbers.ensures ∙ c.if-same_numbers.true))

pub returns : goal.returns
returns c =
    numbers_other c.args.key.now c.args.n c.args.rule c.args.other (sym c.same_numbers.ensures ∙ c.if-same_numbers.false)
    c.put_head.ensures c.put_numbers.ensures c.put.ensures c.put_numbers-2.ensures c.put_byte.ensures
