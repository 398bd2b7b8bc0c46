-- `difference::section::put_old_rule` meets its contract. Assumes nothing.
use native.Mathlib.Omega.{arith}
use Rattle.difference.proofs.Sections.{old_gone, old_changed}
use Rattle.canonical.proofs.PutBook.{section-holds}
use Rattle.difference.proofs.section.put_old_rule.Goals as goal

pub returns-in-Some : goal.returns-in-Some
returns-in-Some c =
    let old = c.args.old.now in
    let new = c.args.new.now in
    old_changed c.args.key.now old.book.now old.section new.book.now new.section c.args.i c.ruled-ruled.ensures c.in-Some.ensures.is c.ruled.ensures c.put_changes.ensures

pub returns-in-None : goal.returns-in-None
returns-in-None c =
    let old = c.args.old.now in
    let new = c.args.new.now in
    old_gone c.args.key.now old.book.now old.section new.book.now new.section c.args.i c.ruled-ruled.ensures c.in-None.ensures.is c.put_rule.ensures

pub overflow_add-i : goal.overflow_add-i
overflow_add-i c =
    let old = c.args.old.now in
    omega (arith, c.requires, (section-holds old.book.now old.start old.stands old.sited).few_rules)

pub overflow_add-m : goal.overflow_add-m
overflow_add-m c =
    let new = c.args.new.now in
    omega (arith, c.in-Some.ensures.inside, (section-holds new.book.now new.start new.stands new.sited).few_rules)

pub overflow_add-i-in-None : goal.overflow_add-i-in-None
overflow_add-i-in-None c =
    let old = c.args.old.now in
    omega (arith, c.requires, (section-holds old.book.now old.start old.stands old.sited).few_rules)
