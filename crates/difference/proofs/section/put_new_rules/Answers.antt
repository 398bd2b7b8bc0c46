-- `difference::section::put_new_rules` meets its contract, by the invariant that stands beside this. Assumes nothing.
use native.Mathlib.Omega.{arith}
use Rattle.grade.specs.Standing.{rules_in}
use Rattle.ack.proofs.Adding.{adds_as, adding_more, adding_over}
use Rattle.difference.specs.Difference.{spots, new_lines}
use Rattle.difference.specs.Sides.{held}
use Rattle.difference.proofs.Sections.{lines-all, lines_more, lines-over}
use Rattle.difference.proofs.section.put_new_rules.Goals as goal

pub loop-i-init : goal.loop-i-init
loop-i-init c = λ after w. w

pub loop-i-preserved : goal.loop-i-preserved
loop-i-preserved c =
    let lines = new_lines c.args.key.now (spots (rules_in c.args.old.now.book.now c.args.old.now.section)) (held c.args.key.now c.args.new.now) in
    adding_more c.loop-i.invariant (lines_more lines c.args.new.now.section.rule_count c.loop-i.i (omega arith)) c.put_new_rule.ensures

pub returns : goal.returns
returns c =
    let lines = new_lines c.args.key.now (spots (rules_in c.args.old.now.book.now c.args.old.now.section)) (held c.args.key.now c.args.new.now) in
    let count = c.args.new.now.section.rule_count in
    adds_as (adding_over c.loop-i.invariant (lines-over lines count c.loop-i.i (omega arith))) (lines-all lines count)
