-- `booktext::refer::are_sets` meets its contract, by the invariant that stands beside this. Assumes nothing.
use mathlib.Core.Bool.{not}
use mathlib.Core.Path.{refl, ap, ◌∙◌}
use Rattle.booktext.specs.Lines.{statements}
use Rattle.booktext.specs.Refusals.{is_set}
use Rattle.booktext.proofs.Words.{words_fewer, words-all, words-not, words-later}
use Rattle.booktext.proofs.refer.are_sets.Goals as goal

pub returns-then-w : goal.returns-then-w
returns-then-w c =
    let a = c.args in
    words-all (is_set (statements a.t.now)) a.t.now c.loop-w.i c.loop-w.invariant c.next_word-w.ensures c.if-w.true

pub is_there-requires : goal.is_there-requires
is_there-requires c = (c.requires, refl)

pub returns-then-not-is_there : goal.returns-then-not-is_there
returns-then-not-is_there c =
    let a = c.args in
    words-not (is_set (statements a.t.now)) a.t.now c.loop-w.i c.loop-w.invariant c.next_word-w.ensures c.if-w.false (c.is_there.ensures ∙ ap (is_set (statements a.t.now)) c.part.ensures) (ap not c.if-not-is_there.true)

pub loop-w-smaller : goal.loop-w-smaller
loop-w-smaller c = words_fewer c.next_word-w.ensures c.if-w.false

pub loop-w-preserved : goal.loop-w-preserved
loop-w-preserved c =
    let a = c.args in
    words-later (is_set (statements a.t.now)) a.t.now c.loop-w.i c.loop-w.invariant c.next_word-w.ensures c.if-w.false (c.is_there.ensures ∙ ap (is_set (statements a.t.now)) c.part.ensures) (ap not c.if-not-is_there.false)

pub loop-w-init : goal.loop-w-init
loop-w-init c = refl
