-- `booktext::before::codes_asked` meets its contract, by the invariant that stands beside this. Assumes nothing.
use mathlib.Core.Bool.{not}
use mathlib.Core.Path.{ap}
use mathlib.Core.List.{map}
use Rattle.booktext.specs.Lines.{statements}
use Rattle.booktext.specs.Refusals.{code_asked}
use Rattle.booktext.specs.Standing.{statement_at, noted}
use Rattle.booktext.proofs.Words.{words-all, words-not, words-later}
use Rattle.booktext.proofs.Preceding.{asked_is}
use Rattle.booktext.proofs.before.codes_asked.Goals as goal

pub returns-then-w : goal.returns-then-w
returns-then-w c =
    let a = c.args in
    words-all (code_asked (statements a.t.now) (map (noted a.t.now) a.cells.now) (statement_at a.t.now a.at 0)) a.t.now c.loop-name.i c.loop-name.invariant c.next_word-w.ensures c.if-w.true

pub returns-then-not-pick : goal.returns-then-not-pick
returns-then-not-pick c =
    let a = c.args in
    let all = statements a.t.now in
    let before = map (noted a.t.now) a.cells.now in
    let s = statement_at a.t.now a.at 0 in
    words-not (code_asked all before s) a.t.now c.loop-name.i c.loop-name.invariant c.next_word-w.ensures c.if-w.false
    (asked_is all before s c.next_word-w.result a.t.now c.requires.2 c.word_of-name.ensures c.part.ensures c.has_code-has.ensures c.pick.ensures)
    (ap not c.if-not-pick.true)

pub loop-name-preserved : goal.loop-name-preserved
loop-name-preserved c =
    let a = c.args in
    let all = statements a.t.now in
    let before = map (noted a.t.now) a.cells.now in
    let s = statement_at a.t.now a.at 0 in
    words-later (code_asked all before s) a.t.now c.loop-name.i c.loop-name.invariant c.next_word-w.ensures c.if-w.false
    (asked_is all before s c.next_word-w.result a.t.now c.requires.2 c.word_of-name.ensures c.part.ensures c.has_code-has.ensures c.pick.ensures)
    (ap not c.if-not-pick.false)
