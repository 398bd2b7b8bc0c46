-- `booktext::line::count_words` meets its contract, by the invariant that stands beside this. Assumes nothing.
use native.Mathlib.Omega.{arith}
use Rattle.booktext.proofs.Words.{count_more, count-over, words-few}
use Rattle.booktext.proofs.line.count_words.Goals as goal

pub returns-then-w : goal.returns-then-w
returns-then-w c =
    let args = c.args in
    let over = count-over _ _ c.next_word-w.ensures c.if-w.true in
    (omega (arith, over), omega (arith, over, words-few args.t.now args.at))

pub overflow_add-count : goal.overflow_add-count
overflow_add-count c =
    let args = c.args in
    omega (arith, count_more _ _ c.next_word-w.ensures c.if-w.false, words-few args.t.now args.at)

pub loop-w-smaller : goal.loop-w-smaller
loop-w-smaller c = omega (arith, count_more _ _ c.next_word-w.ensures c.if-w.false)

pub loop-w-preserved : goal.loop-w-preserved
loop-w-preserved c = omega (arith, count_more _ _ c.next_word-w.ensures c.if-w.false)

pub loop-w-init : goal.loop-w-init
loop-w-init c = omega arith
