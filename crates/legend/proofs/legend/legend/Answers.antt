-- `legend::legend::legend` meets its contract. Assumes nothing.
use mathlib.Core.Path.{refl, sym}
use lib.Seq.{length-take-le}
use Rattle.booktext.proofs.Telling.{row-some, handed-as}
use Rattle.booktext.proofs.Compiling.{none-refused}
use Rattle.legend.proofs.Answering.{legend-refused, legend-answered}
use Rattle.legend.proofs.legend.legend.Goals as goal

pub returns-in_err-make : goal.returns-in_err-make
returns-in_err-make c =
    let f = c.in_err-make.field-0.0 in
    rw (handed-as f c.from_residual.result c.from_residual.ensures.1) (legend-refused c.args.text.now _ c.in_err-make.ensures c.args.output.now (row-some f.row))

pub slice_bounds-write_legend-end : goal.slice_bounds-write_legend-end
slice_bounds-write_legend-end c = sym (length-take-le _ _ c.note_heads-noted.ensures.0)

pub write_legend-requires : goal.write_legend-requires
write_legend-requires c = (c.note_heads-noted.ensures.1, none-refused c.args.text.now _ c.in_ok-make.ensures refl)

pub returns : goal.returns
returns c = legend-answered c.args.text.now _ c.in_ok-make.ensures refl c.args.output.now c.write_legend.ensures
