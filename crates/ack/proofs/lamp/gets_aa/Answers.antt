-- `ack::lamp::gets_aa` meets its contract, by the invariant that stands beside this. Assumes nothing.
use mathlib.Core.Path.{refl, sym, ap, ◌∙◌}
use mathlib.Core.Bool.{not}
use borrow.Author.Tests.{not-true, not-false}
use Rattle.grade.proofs.Sheets.{ahead-less}
use Rattle.ack.proofs.Listing.{ended-told}
use Rattle.ack.proofs.YesOrNo.{aa_header}
use Rattle.ack.proofs.lamp.gets_aa.Goals as goal

pub returns-then-any_wrong : goal.returns-then-any_wrong
returns-then-any_wrong c = sym (aa_header c.args.by.header _ (sym c.any_wrong.ensures ∙ c.if-any_wrong.true))

pub loop-sheet-init : goal.loop-sheet-init
loop-sheet-init c = (c.first_sheet-sheet.ensures.sheeted, refl)

pub loop-sheet-smaller : goal.loop-sheet-smaller
loop-sheet-smaller c =
    let a = c.args in
    ahead-less a.m.now a.book.now c.loop-sheet.sheet (not-true _ c.loop-sheet-test.true) c.next_sheet-sheet.ensures

pub loop-sheet-preserved : goal.loop-sheet-preserved
loop-sheet-preserved c =
    let w = c.next_sheet-sheet.ensures in (w.sheeted, w.told ∙ c.loop-sheet.invariant.1)

pub returns : goal.returns
returns c =
    let a = c.args in
    ap not (ended-told a.m.now a.book.now c.loop-sheet.sheet (not-false _ c.loop-sheet-test.false) (c.loop-sheet.invariant.1 ∙ c.first_sheet-sheet.ensures.told))

pub next_sheet-sheet-requires : goal.next_sheet-sheet-requires
next_sheet-sheet-requires c = c.loop-sheet.invariant.0.ready
