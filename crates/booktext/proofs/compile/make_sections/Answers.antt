-- `booktext::compile::make_sections` meets its contract, by the invariant that stands beside this. Assumes nothing.
use mathlib.Core.Path.{refl, ◌∙◌}
use Rattle.booktext.specs.Standing.{left}
use Rattle.booktext.proofs.Stating.{onward_fewer}
use Rattle.booktext.proofs.Telling.{row-some, handed-as}
use Rattle.booktext.proofs.Compiling.{making_start, making_over, making_right, making_refused, making_on}
use Rattle.booktext.proofs.compile.make_sections.Goals as goal

pub loop-line-init : goal.loop-line-init
loop-line-init c = (making_start c.args.t.now c.args.out.now c.args.at c.requires.1 c.requires.3 c.next_statement-line.ensures, refl)

pub make_any-requires : goal.make_any-requires
make_any-requires c = (c.requires.0, c.requires.2, c.loop-line-test.true, c.requires.3, making_right c.args.t.now c.loop-line.line c.loop-line.invariant.0 c.loop-line-test.true, c.loop-line.invariant.1 ∙ c.requires.4)

pub returns-in_err-to : goal.returns-in_err-to
returns-in_err-to c =
    let f = c.in_err-to.field-0.0 in
    rw (handed-as f c.from_residual.result c.from_residual.ensures.1)
    (making_refused c.args.t.now c.loop-line.line c.loop-line.invariant.0 c.loop-line-test.true c.in_err-to.ensures (row-some f.row))

pub loop-line-smaller : goal.loop-line-smaller
loop-line-smaller c = onward_fewer c.args.t.now (left c.args.t.now) c.loop-line-test.true c.next_line.ensures c.next_statement-line-in-loop-line.ensures

pub loop-line-preserved : goal.loop-line-preserved
loop-line-preserved c = (
  making_on c.args.t.now c.loop-line.line c.loop-line.invariant.0 c.loop-line-test.true c.in_ok-to.ensures refl c.next_line.ensures c.next_statement-line-in-loop-line.ensures,
  c.cells-1.given ∙ c.loop-line.invariant.1,
)

pub returns : goal.returns
returns c = making_over c.args.t.now c.loop-line.line c.loop-line.invariant.0 c.loop-line-test.false c.put.ensures

pub shape_of-out-in_err-to : goal.shape_of-out-in_err-to
shape_of-out-in_err-to c = (returns-in_err-to c).length

pub shape_of-out : goal.shape_of-out
shape_of-out c = (returns c).length
