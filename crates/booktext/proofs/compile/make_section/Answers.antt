-- `booktext::compile::make_section` meets its contract. Assumes nothing.
use mathlib.Core.Path.{refl, sym}
use native.Mathlib.Omega.{arith}
use lib.Seq.{length-take-le}
use Rattle.hl7.proofs.Comparing.{and_both}
use Rattle.booktext.specs.Standing.{statement_at}
use Rattle.booktext.proofs.Telling.{row-some, handed}
use Rattle.booktext.proofs.Making.{twice_told, statements_many, section-made, cells_ready, key-short}
use Rattle.booktext.proofs.compile.make_section.Goals as goal

pub returns-in_err-used_twice : goal.returns-in_err-used_twice
returns-in_err-used_twice c =
    let f = c.in_err-used_twice.field-0.0 in
    twice_told _ _ c.next_line-start.ensures c.in_err-used_twice.ensures (row-some f.row) (handed f c.from_residual.result c.from_residual.ensures.1)

pub returns-then-count-gt-STATEMENT_LIMIT : goal.returns-then-count-gt-STATEMENT_LIMIT
returns-then-count-gt-STATEMENT_LIMIT c = statements_many _ _ c.next_line-start.ensures c.in_ok-used_twice.ensures refl c.note_section-count.ensures c.if-count-gt-STATEMENT_LIMIT.true c.over.ensures

pub slice_bounds-check_section-end : goal.slice_bounds-check_section-end
slice_bounds-check_section-end c = omega (arith, c.if-count-gt-STATEMENT_LIMIT.false, c.note_section-count.auto.cells, c.requires.6)

pub slice_bounds-check_section-end-2 : goal.slice_bounds-check_section-end-2
slice_bounds-check_section-end-2 c = sym (length-take-le c.note_section-count.result _ (omega (arith, c.if-count-gt-STATEMENT_LIMIT.false, c.note_section-count.auto.cells, c.requires.6)))

pub check_section-requires : goal.check_section-requires
check_section-requires c = (
  c.requires.0,
  c.requires.4,
  cells_ready _ _ c.next_line-start.ensures c.note_section-count.ensures c.if-count-gt-STATEMENT_LIMIT.false c.requires.4 c.requires.5,
  c.note_section-count.ensures.marks c.if-count-gt-STATEMENT_LIMIT.false,
  key-short (statement_at _ _ 0) c.requires.3 (and_both _ _ c.requires.5).0,
)

pub returns : goal.returns
returns c = section-made _ _ c.next_line-start.ensures c.in_ok-used_twice.ensures refl c.note_section-count.ensures c.if-count-gt-STATEMENT_LIMIT.false c.check_section.ensures
