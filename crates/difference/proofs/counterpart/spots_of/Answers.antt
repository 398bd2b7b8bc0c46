-- `difference::counterpart::spots_of` meets its contract, by the invariant that stands beside this. Assumes nothing.
use mathlib.Core.Path.{◌∙◌}
use native.Mathlib.Omega.{arith}
use lib.ListN.{length-set}
use Rattle.grade.specs.Standing.{rules_in}
use Rattle.grade.proofs.Holding.{rules-length}
use Rattle.difference.proofs.Counting.{noted_more, noted-all}
use Rattle.difference.proofs.counterpart.spots_of.Goals as goal

pub bounds-noted-i : goal.bounds-noted-i
bounds-noted-i c = omega (arith, c.requires.few_rules)

pub loop-i-preserved : goal.loop-i-preserved
loop-i-preserved c =
    let many = rules-length c.args.book.now c.args.section c.requires in
    let inv = c.loop-i.invariant in
    let few = c.requires.few_rules in (
      length-set c.loop-i.noted c.loop-i.i _ ∙ inv.0,
      noted_more (rules_in c.args.book.now c.args.section) c.loop-i.i c.loop-i.noted (omega (arith, many)) (omega (arith, inv.0, few)) inv.1 c.rule_at.ensures c.spot_of.ensures,
    )

pub returns : goal.returns
returns c =
    let many = rules-length c.args.book.now c.args.section c.requires in
    (c.loop-i.invariant.0, noted-all (rules_in c.args.book.now c.args.section) c.loop-i.i c.loop-i.noted many (omega arith) c.loop-i.invariant.1)
