-- `difference::section::put_new_rule` meets its contract. Assumes nothing.
use native.Mathlib.Omega.{arith}
use Rattle.ack.proofs.Adding.{adds_none}
use Rattle.grade.specs.Standing.{rules_in}
use Rattle.difference.specs.Difference.{spots}
use Rattle.difference.proofs.Sections.{new_known, new_come}
use Rattle.canonical.proofs.PutBook.{section-holds}
use Rattle.difference.proofs.section.put_new_rule.Goals as goal

pub returns-in-Some : goal.returns-in-Some
returns-in-Some c =
    let old = c.args.old.now in
    let new = c.args.new.now in
    adds_none _ (new_known c.args.key.now (spots (rules_in old.book.now old.section)) new.book.now new.section c.args.i c.in-Some.ensures.is)

pub returns-in-None : goal.returns-in-None
returns-in-None c =
    let old = c.args.old.now in
    let new = c.args.new.now in
    new_come c.args.key.now (spots (rules_in old.book.now old.section)) new.book.now new.section c.args.i c.in-None.ensures.is c.ruled.ensures c.put_rule.ensures

pub overflow_add-i : goal.overflow_add-i
overflow_add-i c =
    let new = c.args.new.now in
    omega (arith, c.requires, (section-holds new.book.now new.start new.stands new.sited).few_rules)
