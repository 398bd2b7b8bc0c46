-- `booktext::sets::put_more` meets its contract. Assumes nothing.
use mathlib.Core.Path.{ap}
use mathlib.Core.Bool.{not}
use Rattle.booktext.proofs.Marking.{part_marks}
use Rattle.booktext.proofs.Marking.{part_marks}
use Rattle.booktext.proofs.Spelling.{spelt_as, more_other, more_of_other, more_short, more_put}
use Rattle.booktext.proofs.sets.put_more.Goals as goal

pub put_words-requires : goal.put_words-requires
put_words-requires c =
    let skip = c.skip_words-from in (
      part_marks c.args.t.now c.args.cells.now c.args.i c.requires.0,
      more_short c.args.t.now c.args.cells.now c.args.i c.requires.0 c.requires.1 c.args.name.now c.if-cell-ne-MORE.false c.word_of.ensures c.same_bytes.ensures (ap not c.if-not-same_bytes.false) skip.result skip.ensures c.requires.2,
    )

pub returns-then-cell-ne-MORE : goal.returns-then-cell-ne-MORE
returns-then-cell-ne-MORE c = spelt_as c.put_none.ensures (more_other c.args.t.now c.args.cells.now c.args.i c.requires.0 c.requires.1 c.args.name.now c.if-cell-ne-MORE.true)

pub returns-then-not-same_bytes : goal.returns-then-not-same_bytes
returns-then-not-same_bytes c =
    spelt_as c.put_none-then-not-same_bytes.ensures
    (more_of_other c.args.t.now c.args.cells.now c.args.i c.requires.0 c.requires.1 c.args.name.now c.if-cell-ne-MORE.false c.word_of.ensures c.same_bytes.ensures (ap not c.if-not-same_bytes.true))

pub returns : goal.returns
returns c =
    let skip = c.skip_words-from in
    more_put c.args.t.now c.args.cells.now c.args.i c.requires.0 c.requires.1 c.args.name.now c.if-cell-ne-MORE.false c.word_of.ensures c.same_bytes.ensures (ap not c.if-not-same_bytes.false) skip.result skip.ensures c.put_words.ensures
