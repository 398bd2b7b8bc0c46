-- `booktext::line::word_end` meets its contract, by the invariant that stands beside this. Assumes nothing.
use mathlib.Core.Path.{refl, sym, ◌∙◌}
use Rattle.booktext.specs.Standing.{dark}
use Rattle.booktext.proofs.Words.{run_stop, run_more, run_end}
use Rattle.booktext.proofs.line.word_end.Goals as goal

pub returns-then-not-is_dark : goal.returns-then-not-is_dark
returns-then-not-is_dark c =
    let t = c.args.t.now in
    run_stop dark t c.loop-i.i c.loop-i-test.true (sym c.is_dark.ensures ∙ c.if-not-is_dark.true) ∙ sym c.loop-i.invariant

pub loop-i-preserved : goal.loop-i-preserved
loop-i-preserved c =
    let t = c.args.t.now in
    c.loop-i.invariant ∙ run_more dark t c.loop-i.i c.loop-i-test.true (sym c.is_dark.ensures ∙ c.if-not-is_dark.false)

pub returns : goal.returns
returns c = run_end dark c.args.t.now c.loop-i.i c.loop-i-test.false ∙ sym c.loop-i.invariant

pub loop-i-init : goal.loop-i-init
loop-i-init c = refl
