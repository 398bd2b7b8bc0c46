-- `booktext::compile::compile` meets its contract. Assumes nothing.
use mathlib.Core.Path.{refl, sym}
use lib.Seq.{length-take-le}
use Rattle.booktext.proofs.Telling.{row-some, handed-as}
use Rattle.booktext.proofs.Compiling.{compile_refused, size_fits, compile_short, compile_done}
use Rattle.booktext.proofs.compile.compile.Goals as goal

pub returns-in_err-size : goal.returns-in_err-size
returns-in_err-size c =
    let a = c.args in
    let f = c.in_err-size.field-0.0 in
    rw (handed-as f c.from_residual.result c.from_residual.ensures.1) (compile_refused a.text.now _ c.in_err-size.ensures a.output.now (row-some f.row))

pub returns-then-output-size : goal.returns-then-output-size
returns-then-output-size c =
    let a = c.args in
    compile_short a.text.now _ c.in_ok-size.ensures refl a.output.now c.if-output-size.true c.with.ensures

pub slice_bounds-place-end : goal.slice_bounds-place-end
slice_bounds-place-end c = size_fits c.args.text.now _ c.in_ok-size.ensures refl c.place-2-1.given

pub slice_bounds-put-end : goal.slice_bounds-put-end
slice_bounds-put-end c = sym (length-take-le _ _ (size_fits c.args.text.now _ c.in_ok-size.ensures refl c.place-2-1.given))

pub returns : goal.returns
returns c =
    let a = c.args in
    compile_done a.text.now _ c.in_ok-size.ensures refl a.output.now c.if-output-size.false c.put.ensures
