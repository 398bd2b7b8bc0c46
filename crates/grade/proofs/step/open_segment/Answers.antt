-- `grade::step::open_segment` meets its contract, by the invariant that stands beside this. Assumes nothing.
use Prim.Native.Nat.{◌+◌}
use mathlib.Core.Path.{refl, ◌∙◌}
use native.Mathlib.Omega.{arith}
use Rattle.grade.specs.Order.{table_says}
use Rattle.grade.proofs.Segments.{no_segment, other_one, counts-later, opened}
use Rattle.grade.proofs.step.open_segment.Goals as goal

pub loop-by-init : goal.loop-by-init
loop-by-init c = (refl, refl, c.requires.3, refl, omega arith, refl)

pub shape_of-starts-then-end-stop : goal.shape_of-starts-then-end-stop
shape_of-starts-then-end-stop c = c.loop-by.invariant.0

pub returns-then-end-stop : goal.returns-then-end-stop
returns-then-end-stop c =
    let a = c.args in
    let p = c.requires in
    let l = c.loop-by in
    let far = c.find_far-stop in
    no_segment (table_says a.table.now) a.by.d a.m.now a.book.now a.by.section a.from l.at a.last l.starts l.counts _ p.1 l.invariant.2 l.invariant.5 (omega (arith, far.ensures)) c.finish.result c.finish.ensures

pub overflow_add-ordinal : goal.overflow_add-ordinal
overflow_add-ordinal c =
    let a = c.args in
    let p = c.requires in
    let l = c.loop-by in
    omega (arith, p.0, l.invariant.2.inside, l.invariant.2.counted c.name_of-name.result)

pub enter-requires : goal.enter-requires
enter-requires c =
    let a = c.args in
    let p = c.requires in
    let l = c.loop-by in
    (omega (arith, c.find_far-stop.ensures), omega (arith, l.invariant.3, c.if-end-stop.false), omega (arith, p.4, l.invariant.0), omega arith)

pub shape_of-starts-then-name-le10 : goal.shape_of-starts-then-name-le10
shape_of-starts-then-name-le10 c = c.enter.auto.starts ∙ c.loop-by.invariant.0

pub returns-then-name-le10 : goal.returns-then-name-le10
returns-then-name-le10 c =
    let a = c.args in
    let p = c.requires in
    let l = c.loop-by in
    let far = c.find_far-stop in
    opened (table_says a.table.now) a.by.d a.m.now a.book.now a.by.section l.at a.last l.counts l.invariant.2 far.result far.ensures (omega (arith, l.invariant.3, c.if-end-stop.false)) c.name_of-name.result c.name_of-name.ensures a.from _ l.invariant.5 l.invariant.4 p.1 p.2 _ (omega (arith, c.if-name-le10.true)) c.link_at-first.result c.link_at-first.ensures c.enter.result c.enter.ensures

pub loop-by-preserved : goal.loop-by-preserved
loop-by-preserved c =
    let a = c.args in
    let p = c.requires in
    let l = c.loop-by in
    let far = c.find_far-stop in (
      l.invariant.0,
      l.invariant.1,
      counts-later (far.result + 1) l.invariant.2 (omega (arith, far.ensures)) (omega arith),
      l.invariant.3,
      omega (arith, l.invariant.4, far.ensures),
      l.invariant.5 ∙ other_one (table_says a.table.now) a.by.d a.m.now a.book.now a.by.section l.at a.last l.counts l.invariant.2 far.result far.ensures (omega arith) c.name_of-name.result c.name_of-name.ensures (omega arith),
    )
