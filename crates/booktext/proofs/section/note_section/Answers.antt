-- `booktext::section::note_section` meets its contract, by the invariant that stands beside this. Assumes nothing.
use mathlib.Core.Path.{ap}
use Rattle.booktext.specs.Lines.{statements}
use Rattle.booktext.specs.Meaning.{expand}
use Rattle.booktext.specs.Standing.{body_from}
use Rattle.booktext.proofs.Stating.{found-onward, onward_fewer}
use Rattle.booktext.proofs.Noting.{noting_start, noting_over, section_on, section_done, noted-all}
use Rattle.booktext.proofs.Numbering.{all_long}
use Rattle.booktext.proofs.section.note_section.Goals as goal

pub loop-at-init : goal.loop-at-init
loop-at-init g c =
    let a = c.args in
    noting_start a.t.now (g.N.CellNumber.cells a.cells.now) 0 _ _ (ap (expand (statements a.t.now)) (found-onward a.t.now (body_from a.t.now) c.next_in_body-at.ensures))

pub loop-at-smaller : goal.loop-at-smaller
loop-at-smaller g c =
    let a = c.args in
    onward_fewer a.t.now (body_from a.t.now) c.loop-at-test.true c.next_line.ensures c.next_in_body-at-in-loop-at.ensures

pub returns-then-n-gt-STATEMENT_LIMIT : goal.returns-then-n-gt-STATEMENT_LIMIT
returns-then-n-gt-STATEMENT_LIMIT g c = noted-all _ _ _ _ _ (noting_over _ _ _ _ _ _ _ c.loop-at.invariant c.if-n-gt-STATEMENT_LIMIT.true)

pub loop-at-preserved : goal.loop-at-preserved
loop-at-preserved g c =
    let a = c.args in
    section_on a.t.now (g.N.CellNumber.cells a.cells.now) 0 (expand (statements a.t.now) (body_from a.t.now a.start)) (g.N.CellNumber.cells c.loop-at.cells) c.loop-at.n c.loop-at.at c.loop-at.invariant c.loop-at-test.true _ _ (all_long _ _ g.met.N.CellNumber.cells_are _ _ c.note_both-n.auto.cells) c.note_both-n.ensures c.next_line.ensures c.next_in_body-at-in-loop-at.ensures

pub returns : goal.returns
returns g c = noted-all _ _ _ _ _ (section_done _ _ _ _ _ _ c.loop-at.at c.loop-at.invariant c.loop-at-test.false)
