-- `canonical::show::put_rules` meets its contract, by the invariant that stands beside this. Assumes nothing.
use native.Mathlib.Omega.{arith}
use Rattle.grade.specs.Standing.{rules_in}
use Rattle.grade.proofs.Holding.{rules-length}
use Rattle.ack.proofs.Adding.{adding_more, adding_over}
use Rattle.canonical.proofs.PutRules.{rules_more, rules-over}
use Rattle.canonical.proofs.show.put_rules.Goals as goal

pub loop-i-init : goal.loop-i-init
loop-i-init c = λ after w. w

pub put_noted-requires : goal.put_noted-requires
put_noted-requires c = (c.requires.0, omega arith, omega (arith, c.requires.0.few_rules))

pub loop-i-preserved : goal.loop-i-preserved
loop-i-preserved c =
    let many = rules-length c.args.book.now c.args.section c.requires.0 in
    let next = rules_more (rules_in c.args.book.now c.args.section) c.loop-i.i c.loop-i.spots c.args.key.now (omega (arith, many)) (omega (arith, c.requires.0.few_rules)) c.put_noted.ensures.1 in
    adding_more c.loop-i.invariant next c.put_noted.ensures.0

pub returns : goal.returns
returns c =
    let many = rules-length c.args.book.now c.args.section c.requires.0 in
    adding_over c.loop-i.invariant (rules-over (rules_in c.args.book.now c.args.section) c.loop-i.i c.loop-i.spots c.args.key.now (omega (arith, many)))
