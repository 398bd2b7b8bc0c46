-- `legend::legend::write_legend` meets its contract. Assumes nothing.
use mathlib.Core.Path.{refl}
use native.Mathlib.Omega.{arith}
use Rattle.booktext.proofs.Answering.{measured_short, measured_done}
use Rattle.legend.specs.Legend.{legend}
use Rattle.legend.proofs.Sizes.{text_fits_lem, text-roomy, legend-short}
use Rattle.legend.proofs.legend.write_legend.Goals as goal

pub put_legend-size-requires : goal.put_legend-size-requires
put_legend-size-requires c = (c.requires.0, text_fits_lem c.args.t.now c.requires.1, text-roomy c.args.t.now c.requires.1)

pub returns-then-output-size : goal.returns-then-output-size
returns-then-output-size c =
    let t = c.args.t.now in
    let short = legend-short t c.requires.1 in
    measured_short (legend t) (omega (arith, short)) c.args.output.now c.put_legend-size.ensures c.if-output-size.true c.with.ensures

pub put_legend-requires : goal.put_legend-requires
put_legend-requires c = (c.requires.0, text_fits_lem c.args.t.now c.requires.1, text-roomy c.args.t.now c.requires.1)

pub returns : goal.returns
returns c =
    let t = c.args.t.now in
    let short = legend-short t c.requires.1 in
    measured_done (legend t) (omega (arith, short)) c.args.output.now c.put_legend-size.ensures c.if-output-size.false refl c.put_legend.ensures
