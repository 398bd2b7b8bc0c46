-- `grade::book::walk_sections` meets its contract, by the invariant that stands beside this. Assumes nothing.
use mathlib.Core.Path.{sym, ap, ◌∙◌}
use native.Mathlib.Omega.{arith}
use lib.ListN.{take}
use Rattle.grade.specs.Book.{section}
use Rattle.grade.specs.Standing.{up_to}
use Rattle.grade.proofs.Readings.{noted_more, noted-fault, noted-all}
use Rattle.grade.proofs.book.walk_sections.Goals as goal

pub returns-in_err-end : goal.returns-in_err-end
returns-in_err-end c =
    let a = c.args in
    let l = c.loop-i in
    noted-fault section a.book.now a.count l.i l.from l.starts l.invariant (omega arith) (sym c.section_end.ensures ∙ c.in_err-end.was)
    ∙ ap (up_to (take a.count l.starts)) (sym c.from_residual.ensures)

pub loop-i-preserved : goal.loop-i-preserved
loop-i-preserved c =
    let a = c.args in
    let l = c.loop-i in
    noted_more section a.book.now a.count l.i l.from l.starts l.invariant _ (omega arith) (omega arith) (sym c.section_end.ensures ∙ c.in_ok-end.was)

pub returns : goal.returns
returns c =
    let a = c.args in
    let l = c.loop-i in
    noted-all section a.book.now a.count l.i l.from l.starts l.invariant (omega arith)
