-- `grade::within::next_within` meets its contract, by the invariant that stands beside this. Assumes nothing.
use mathlib.Core.Path.{refl, ◌∙◌}
use native.Mathlib.Omega.{arith}
use Rattle.grade.proofs.Holding.{rules-length}
use Rattle.grade.proofs.Spots.{left_over, then_found, then_last, next-later, next-stands, then_none}
use Rattle.grade.proofs.within.next_within.Goals as goal

pub loop-at-init : goal.loop-at-init
loop-at-init c = (c.requires.2, refl)

pub at_rule-requires : goal.at_rule-requires
at_rule-requires c =
    let a = c.args in
    let p = c.requires in
    let l = c.loop-at in
    (p.0.short, p.0.holds, p.0.placed, p.1, l.invariant.0, p.3, omega arith)

pub returns-in-Found : goal.returns-in-Found
returns-in-Found c =
    let a = c.args in
    let p = c.requires in
    let l = c.loop-at in
    then_found a.d a.m.now a.book.now a.section a.here p.0.holds p.1 l.at l.invariant.0 (omega (arith, c.loop-at-test.true)) l.invariant.1 c.at_rule.ensures _ _ c.in-Found.is

pub overflow_add-at : goal.overflow_add-at
overflow_add-at c =
    let a = c.args in
    let p = c.requires in
    let l = c.loop-at in
    omega (arith, p.0.holds.few_rules, c.loop-at-test.true)

pub link_at-requires : goal.link_at-requires
link_at-requires c =
    let a = c.args in
    let p = c.requires in
    let l = c.loop-at in
    omega (arith, p.0.holds.few_rules, c.loop-at-test.true)

pub returns-in-Last : goal.returns-in-Last
returns-in-Last c =
    let a = c.args in
    let p = c.requires in
    let l = c.loop-at in
    then_last a.d a.m.now a.book.now a.section a.here p.0.holds p.1 l.at l.invariant.0 (omega (arith, c.loop-at-test.true)) p.0.linked c.link_at.ensures c.first_spot.ensures l.invariant.1 c.at_rule.ensures _ c.in-Last.is

pub overflow_add-at-in-Nothing : goal.overflow_add-at-in-Nothing
overflow_add-at-in-Nothing c =
    let a = c.args in
    let p = c.requires in
    let l = c.loop-at in
    omega (arith, p.0.holds.few_rules, c.loop-at-test.true)

pub link_at-requires-in-Nothing : goal.link_at-requires-in-Nothing
link_at-requires-in-Nothing c =
    let a = c.args in
    let p = c.requires in
    let l = c.loop-at in
    omega (arith, p.0.holds.few_rules, c.loop-at-test.true)

pub loop-at-smaller : goal.loop-at-smaller
loop-at-smaller c =
    let a = c.args in
    let p = c.requires in
    let l = c.loop-at in
    omega (arith, c.loop-at-test.true, next-later a.d a.m.now a.book.now a.section a.here p.0.holds p.1 l.at l.invariant.0 (omega (arith, c.loop-at-test.true)) p.0.linked c.link_at-in-Nothing.ensures c.first_spot-at.ensures)

pub loop-at-preserved : goal.loop-at-preserved
loop-at-preserved c =
    let a = c.args in
    let p = c.requires in
    let l = c.loop-at in
    (next-stands a.d a.m.now a.book.now a.section a.here p.0.holds p.1 l.at l.invariant.0 (omega (arith, c.loop-at-test.true)) p.0.linked c.link_at-in-Nothing.ensures c.first_spot-at.ensures, l.invariant.1 ∙ then_none a.d a.m.now a.book.now a.section a.here p.0.holds p.1 l.at l.invariant.0 (omega (arith, c.loop-at-test.true)) p.0.linked c.link_at-in-Nothing.ensures c.first_spot-at.ensures c.at_rule.ensures c.in-Nothing.is)

pub returns : goal.returns
returns c =
    let a = c.args in
    let p = c.requires in
    let l = c.loop-at in
    l.invariant.1 ∙ left_over a.d a.m.now a.book.now a.section a.here l.at (omega (arith, rules-length a.book.now a.section p.0.holds))
