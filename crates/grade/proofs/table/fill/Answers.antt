-- `table::fill` meets its contract: each turn stores one sheet. Assumes nothing.
use Rattle.std.proofs.Common.{arith, take}
use Rattle.grade.specs.Sheet.{to_come}
use Rattle.grade.specs.Filling.{all_from}
use Rattle.grade.proofs.Filling.{length-left, some_used, begun, one_more, filled, goes_on}
use Rattle.grade.proofs.table.fill.Goals as goal

pub loop-at-init : goal.loop-at-init
loop-at-init c = (take c.args.count (all_from c.args.m.now c.args.book.now c.args.first), begun c.requires.1)

pub store_sheet-requires : goal.store_sheet-requires
store_sheet-requires c =
    let h = c.loop-at.invariant.1 in
    let here = goes_on h c.loop-at-test.true in
    (omega (arith, h.upto, h.long, length-left here), omega (arith, here.sheeted.fits, here.sheeted.ready.lined))

pub loop-at-preserved : goal.loop-at-preserved
loop-at-preserved c =
    let h = c.loop-at.invariant.1 in
    let here = goes_on h c.loop-at-test.true in
    let stored = one_more h here c.next_sheet-sheet.ensures in
    (to_come c.args.m.now c.args.book.now c.loop-at.sheet, rw c.store_sheet.ensures stored)

pub loop-at-smaller : goal.loop-at-smaller
loop-at-smaller c =
    let h = c.loop-at.invariant.1 in
    let here = goes_on h c.loop-at-test.true in
    omega (arith, some_used here (omega (arith, h.upto)))

pub returns : goal.returns
returns c = filled c.loop-at.invariant.1 c.loop-at-test.false
