-- `ack::errs::put_errs` meets its contract, by the invariant that stands beside this. Assumes nothing.
use mathlib.Core.Path.{refl, ap}
use Rattle.hl7.specs.declared.place.Delims.{Delims}
use Rattle.grade.specs.Sheet.{held}
use Rattle.grade.proofs.Sheets.{ahead-less}
use Rattle.ack.specs.Pieces.{errs}
use Rattle.ack.proofs.Listing.{putting_start, putting_more, putting_over}
use Rattle.ack.proofs.Adding.{adds_as}
use Rattle.ack.proofs.errs.put_errs.Goals as goal

pub loop-sheet-init : goal.loop-sheet-init
loop-sheet-init c =
    let a = c.args in
    (putting_start a.m.now a.book.now a.first a.out.now c.requires.0 c.requires.1, refl)

pub returns-then-sheet : goal.returns-then-sheet
unfolding held
returns-then-sheet c =
    let a = c.args in
    let l = c.loop-sheet in
    putting_over a.m.now a.book.now a.first a.out.now l.invariant.0 (adds_as c.put_each.ensures (ap (λ (d : Delims). errs d (held l.sheet)) l.invariant.1)) c.if-sheet.true

pub loop-sheet-smaller : goal.loop-sheet-smaller
loop-sheet-smaller c =
    let a = c.args in
    ahead-less a.m.now a.book.now c.loop-sheet.sheet c.if-sheet.false c.next_sheet-sheet.ensures

pub loop-sheet-preserved : goal.loop-sheet-preserved
unfolding held
loop-sheet-preserved c =
    let a = c.args in
    let l = c.loop-sheet in
    (putting_more a.m.now a.book.now a.first a.out.now l.invariant.0 (adds_as c.put_each.ensures (ap (λ (d : Delims). errs d (held l.sheet)) l.invariant.1)) c.next_sheet-sheet.ensures, l.invariant.1)

pub next_sheet-sheet-requires : goal.next_sheet-sheet-requires
next_sheet-sheet-requires c = c.loop-sheet.invariant.0.sheeted.ready
