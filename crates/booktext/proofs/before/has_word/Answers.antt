-- `booktext::before::has_word` meets its contract, by the invariant that stands beside this. Assumes nothing.
use Rattle.booktext.proofs.Preceding.{word_none, word-here, word-later}
use Rattle.booktext.proofs.before.has_word.Goals as goal

pub returns-then-w : goal.returns-then-w
returns-then-w c =
    let a = c.args in
    word_none a.t.now a.code.now c.loop-w.i c.loop-w.invariant c.next_word-w.ensures c.if-w.true

pub returns-then-same_bytes : goal.returns-then-same_bytes
returns-then-same_bytes c =
    let a = c.args in
    word-here a.t.now a.code.now c.loop-w.i c.loop-w.invariant c.next_word-w.ensures c.if-w.false c.part.ensures c.same_bytes.ensures c.if-same_bytes.true

pub loop-w-preserved : goal.loop-w-preserved
loop-w-preserved c =
    let a = c.args in
    word-later a.t.now a.code.now c.loop-w.i c.loop-w.invariant c.next_word-w.ensures c.if-w.false c.part.ensures c.same_bytes.ensures c.if-same_bytes.false
