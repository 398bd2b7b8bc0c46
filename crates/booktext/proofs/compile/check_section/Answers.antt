-- `booktext::compile::check_section` meets its contract. Assumes nothing.
use mathlib.Core.Path.{refl, sym, ap, ◌∙◌}
use native.Mathlib.Omega.{arith}
use lib.Seq.{length-take-le}
use Rattle.grade.specs.Encoding.{each}
use Rattle.booktext.specs.Standing.{ready}
use Rattle.booktext.proofs.Settling.{settled-ready}
use Rattle.booktext.proofs.Telling.{row-some, handed}
use Rattle.booktext.proofs.Making.{puts_first, puts_next}
use Rattle.booktext.proofs.compile.check_section.Goals as goal

pub first_rule_fault-requires : goal.first_rule_fault-requires
first_rule_fault-requires c = (c.requires.0, c.requires.3)

pub returns-in_err-first_rule_fault : goal.returns-in_err-first_rule_fault
returns-in_err-first_rule_fault c =
    let f = c.in_err-first_rule_fault.field-0.0 in
    puts_first c.in_err-first_rule_fault.ensures _ (row-some f.row) (handed f c.from_residual.result c.from_residual.ensures.1) refl

pub settle-count-requires : goal.settle-count-requires
settle-count-requires c = c.requires.3

pub slice_bounds-put_section-end : goal.slice_bounds-put_section-end
slice_bounds-put_section-end c = omega (arith, c.settle-count.ensures.0, c.settle-count.auto.cells)

pub slice_bounds-put_section-end-2 : goal.slice_bounds-put_section-end-2
slice_bounds-put_section-end-2 c = sym (length-take-le c.settle-count.result _ (omega (arith, c.settle-count.ensures.0, c.settle-count.auto.cells)))

pub put_section-requires : goal.put_section-requires
put_section-requires c = (c.requires.0, c.requires.1, ap (each ready) c.settle-count.ensures.1 ∙ settled-ready _ c.requires.2, c.settle-count.ensures.2, c.requires.4)

pub returns : goal.returns
returns c = puts_next c.in_ok-first_rule_fault.ensures refl (c.put_section.ensures _ c.settle-count.ensures.1)
