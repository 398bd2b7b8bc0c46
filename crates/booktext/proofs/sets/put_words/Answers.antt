-- `booktext::sets::put_words` meets its contract, by the invariant that stands beside this. Assumes nothing.
use mathlib.Core.List.{map}
use Rattle.booktext.specs.Standing.{noted}
use Rattle.booktext.proofs.Spelling.{spells_over, words-short, words_more, words-over}
use Rattle.booktext.proofs.sets.put_words.Goals as goal

pub returns-then-w : goal.returns-then-w
returns-then-w c =
    let entry = c.args in
    spells_over c.loop-w.invariant.1 (words-over c.next_word-w.ensures entry.name.now (map (noted entry.t.now) entry.cells.now) c.if-w.true) c.put_none.ensures

pub loop-w-preserved : goal.loop-w-preserved
loop-w-preserved c =
    let entry = c.args in
    let inv = c.loop-w.invariant in
    let word = c.next_word-w.ensures in
    let some = c.if-w.false in
    ((words-short word some inv.0).1, words_more word entry.name.now (map (noted entry.t.now) entry.cells.now) some c.part.ensures inv.1 c.put_code-to.ensures)
