-- `booktext::line::past_blanks` meets its contract, by the invariant that stands beside this. Assumes nothing.
use mathlib.Core.Path.{refl, sym, ◌∙◌}
use Rattle.booktext.specs.Lines.{blank}
use Rattle.booktext.proofs.Words.{run_stop, run_more, run_end}
use Rattle.booktext.proofs.line.past_blanks.Goals as goal

pub returns-then-not-is_blank : goal.returns-then-not-is_blank
returns-then-not-is_blank c =
    let t = c.args.t.now in
    run_stop blank t c.loop-i.i c.loop-i-test.true (sym c.is_blank.ensures ∙ c.if-not-is_blank.true) ∙ sym c.loop-i.invariant

pub loop-i-preserved : goal.loop-i-preserved
loop-i-preserved c =
    let t = c.args.t.now in
    c.loop-i.invariant ∙ run_more blank t c.loop-i.i c.loop-i-test.true (sym c.is_blank.ensures ∙ c.if-not-is_blank.false)

pub returns : goal.returns
returns c = run_end blank c.args.t.now c.loop-i.i c.loop-i-test.false ∙ sym c.loop-i.invariant

pub loop-i-init : goal.loop-i-init
loop-i-init c = refl
