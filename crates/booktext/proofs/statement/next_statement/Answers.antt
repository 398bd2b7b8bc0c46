-- `booktext::statement::next_statement` meets its contract, by the invariant that stands beside this. Assumes nothing.
use mathlib.Core.Path.{refl}
use native.Mathlib.Omega.{arith}
use Rattle.booktext.proofs.Stating.{left_silent, left-found, left_over}
use Rattle.booktext.proofs.statement.next_statement.Goals as goal

pub returns-then-has_words : goal.returns-then-has_words
returns-then-has_words c =
    let a = c.args in
    left-found a.t.now a.from c.loop-at.at c.loop-at.invariant c.loop-at-test.true c.has_words.ensures c.if-has_words.true

pub loop-at-smaller : goal.loop-at-smaller
loop-at-smaller c = omega (arith, c.next_line-at.ensures, c.loop-at-test.true)

pub loop-at-preserved : goal.loop-at-preserved
loop-at-preserved c =
    let a = c.args in
    left_silent a.t.now a.from c.loop-at.at c.loop-at.invariant c.loop-at-test.true c.has_words.ensures c.if-has_words.false c.next_line-at.ensures

pub returns : goal.returns
returns c =
    let a = c.args in
    left_over a.t.now a.from c.loop-at.at c.loop-at.invariant c.loop-at-test.false

pub loop-at-init : goal.loop-at-init
loop-at-init c = refl
