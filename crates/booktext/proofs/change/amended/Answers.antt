-- `booktext::change::amended` meets its contract, by the invariant that stands beside this. Assumes nothing.
use mathlib.Core.Path.{sym, subst}
use Rattle.booktext.specs.Cells.{Cell}
use Rattle.booktext.specs.Changes.{amend}
use Rattle.booktext.specs.Standing.{noted, Marked}
use Rattle.booktext.proofs.Marking.{mark_at}
use Rattle.booktext.proofs.Changing.{amends_start, amends_more, amends_over}
use Rattle.booktext.proofs.Numbering.{all-inside, all_over, all-at, so_at}
use Rattle.booktext.proofs.change.amended.Goals as goal

pub loop-cell-init : goal.loop-cell-init
loop-cell-init g c = amends_start _ _ _ _ c.requires.0

pub amend-last-requires : goal.amend-last-requires
amend-last-requires g c =
    let all = g.met.N.CellNumber.cells_are in
    let cells = c.args.cells.now in
    let mark = mark_at _ _ _ c.requires.1 (all-inside _ _ all cells c.loop-cell-test.true) in
    (c.loop-cell.invariant.rules, subst (Marked c.args.t.now) (sym (all-at _ _ all cells c.loop-cell-test.true c.cell-item.is)) mark)

pub loop-cell-preserved : goal.loop-cell-preserved
loop-cell-preserved g c =
    let all = g.met.N.CellNumber.cells_are in
    let cells = c.args.cells.now in
    let t = c.args.t.now in
    let last = g.N.CellNumber.cell c.loop-cell.last in
    let more = c.amend-last.ensures in
    amends_more _ _ _ _ _ _ c.loop-cell.invariant (all-inside _ _ all cells c.loop-cell-test.true) _
    (so_at _ _ all (λ (x : Cell). amend c.args.spot (noted t last) (noted t x)) cells c.loop-cell-test.true c.cell-item.is more.0, more.1, more.2)

pub returns : goal.returns
returns g c = amends_over _ _ _ _ _ _ c.loop-cell.invariant (all_over _ _ g.met.N.CellNumber.cells_are c.args.cells.now c.loop-cell-test.false)
