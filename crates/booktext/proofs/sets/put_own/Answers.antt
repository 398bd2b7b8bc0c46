-- `booktext::sets::put_own` meets its contract. Assumes nothing.
use mathlib.Core.List.{map}
use Rattle.booktext.specs.Standing.{noted}
use Rattle.booktext.proofs.Spelling.{spelt_as, own-none, own-short-words, own-short-listed, own_put}
use Rattle.booktext.proofs.sets.put_own.Goals as goal

pub put_words-own-requires : goal.put_words-own-requires
put_words-own-requires c = (c.requires.0, own-short-words c.args.t.now c.args.name.now c.requires.1 c.if-t-line.false c.requires.2 c.skip_words.result c.skip_words.ensures)

pub put_listed-requires : goal.put_listed-requires
put_listed-requires c = (c.requires.0, own-short-listed c.args.t.now c.args.name.now c.requires.1 c.if-t-line.false c.requires.2 c.next_line.ensures)

pub returns-then-t-line : goal.returns-then-t-line
returns-then-t-line c = spelt_as c.put_none.ensures (own-none c.args.t.now c.args.name.now c.requires.1 c.if-t-line.true (map (noted c.args.t.now) c.args.cells.now))

pub returns : goal.returns
returns c =
    let skip = c.skip_words in
    own_put c.args.t.now c.args.name.now c.requires.1 c.if-t-line.false (map (noted c.args.t.now) c.args.cells.now) skip.result skip.ensures c.put_words-own.ensures c.next_line.ensures c.put_listed.ensures
