-- `grade::step::next_graded` meets its contract, by the invariant that stands beside this. Assumes nothing.
use mathlib.Core.Path.{refl, ◌∙◌}
use native.Mathlib.Omega.{arith}
use Rattle.grade.specs.Order.{table_says}
use Rattle.grade.proofs.Segments.{cursor-found, cursor-fine, then_order, then_rules, then_end}
use Rattle.grade.proofs.step.next_graded.Goals as goal

pub loop-finding-init : goal.loop-finding-init
loop-finding-init c = (refl, c.requires.1, refl)

pub next_within-requires : goal.next_within-requires
next_within-requires c =
    let a = c.args in
    let p = c.requires in
    let l = c.loop-finding in
    (p.0, l.invariant.1.here, l.invariant.1.spot, omega (arith, p.2, l.invariant.0))

pub shape_of-starts-in-Some : goal.shape_of-starts-in-Some
shape_of-starts-in-Some c = c.loop-finding.invariant.0

pub returns-in-Some : goal.returns-in-Some
returns-in-Some c =
    let a = c.args in
    let p = c.requires in
    let l = c.loop-finding in
    cursor-found (table_says a.table.now) a.by.d a.m.now a.book.now a.by.section l.starts l.counts l.c l.invariant.1 _ l.invariant.2 c.next_within.ensures _ _ c.in-Some.is c.none_wrong.ensures c.moved.ensures

pub open_segment-requires : goal.open_segment-requires
open_segment-requires c =
    let a = c.args in
    let p = c.requires in
    let l = c.loop-finding in
    (p.0.short, p.0.holds, p.0.linked, l.invariant.1.passed, omega (arith, p.2, l.invariant.0))

pub shape_of-starts-in-Order : goal.shape_of-starts-in-Order
shape_of-starts-in-Order c = c.open_segment.auto.starts ∙ c.loop-finding.invariant.0

pub returns-in-Order : goal.returns-in-Order
returns-in-Order c =
    let a = c.args in
    let p = c.requires in
    let l = c.loop-finding in
    then_order (table_says a.table.now) a.by.d a.m.now a.book.now a.by.section _ _ _ c.open_segment.result c.open_segment.ensures (cursor-fine (table_says a.table.now) a.by.d a.m.now a.book.now a.by.section l.starts l.counts l.c l.invariant.1 _ l.invariant.2 c.next_within.ensures c.in_default.is) c.in-Order.is

pub loop-finding-smaller : goal.loop-finding-smaller
loop-finding-smaller c =
    let a = c.args in
    let p = c.requires in
    let l = c.loop-finding in
    let got = then_rules (table_says a.table.now) a.by.d a.m.now a.book.now a.by.section _ _ _ c.open_segment.result c.open_segment.ensures (cursor-fine (table_says a.table.now) a.by.d a.m.now a.book.now a.by.section l.starts l.counts l.c l.invariant.1 _ l.invariant.2 c.next_within.ensures c.in_default.is) c.in-Rules.is in
    omega (arith, got.2, got.1.passed.inside, l.invariant.1.passed.inside)

pub loop-finding-preserved : goal.loop-finding-preserved
loop-finding-preserved c =
    let a = c.args in
    let p = c.requires in
    let l = c.loop-finding in
    let got = then_rules (table_says a.table.now) a.by.d a.m.now a.book.now a.by.section _ _ _ c.open_segment.result c.open_segment.ensures (cursor-fine (table_says a.table.now) a.by.d a.m.now a.book.now a.by.section l.starts l.counts l.c l.invariant.1 _ l.invariant.2 c.next_within.ensures c.in_default.is) c.in-Rules.is in
    (c.open_segment.auto.starts ∙ l.invariant.0, got.1, got.0)

pub shape_of-starts-in-End : goal.shape_of-starts-in-End
shape_of-starts-in-End c = c.open_segment.auto.starts ∙ c.loop-finding.invariant.0

pub returns-in-End : goal.returns-in-End
returns-in-End c =
    let a = c.args in
    let p = c.requires in
    let l = c.loop-finding in
    then_end (table_says a.table.now) a.by.d a.m.now a.book.now a.by.section _ _ _ c.open_segment.result c.open_segment.ensures (cursor-fine (table_says a.table.now) a.by.d a.m.now a.book.now a.by.section l.starts l.counts l.c l.invariant.1 _ l.invariant.2 c.next_within.ensures c.in_default.is) c.in-End.is
