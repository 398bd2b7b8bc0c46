-- `difference::section::put_old_rules` meets its contract, by the invariant that stands beside this. Assumes nothing.
use native.Mathlib.Omega.{arith}
use Rattle.ack.proofs.Adding.{adds_as, adding_more, adding_over}
use Rattle.difference.specs.Difference.{old_lines}
use Rattle.difference.specs.Sides.{held}
use Rattle.difference.proofs.Sections.{lines-all, lines_more, lines-over}
use Rattle.difference.proofs.section.put_old_rules.Goals as goal

pub loop-i-init : goal.loop-i-init
loop-i-init c = λ after w. w

pub loop-i-preserved : goal.loop-i-preserved
loop-i-preserved c =
    let lines = old_lines (held c.args.key.now c.args.old.now) (held c.args.key.now c.args.new.now) in
    adding_more c.loop-i.invariant (lines_more lines c.args.old.now.section.rule_count c.loop-i.i (omega arith)) c.put_old_rule.ensures

pub returns : goal.returns
returns c =
    let lines = old_lines (held c.args.key.now c.args.old.now) (held c.args.key.now c.args.new.now) in
    let count = c.args.old.now.section.rule_count in
    adds_as (adding_over c.loop-i.invariant (lines-over lines count c.loop-i.i (omega arith))) (lines-all lines count)
