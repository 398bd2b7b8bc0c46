-- `booktext::sets::put_line` meets its contract. Assumes nothing.
use mathlib.Core.List.{map}
use Rattle.booktext.specs.Standing.{noted}
use Rattle.booktext.proofs.Spelling.{spelt_as, line-short, line_put, line_other}
use Rattle.booktext.proofs.sets.put_line.Goals as goal

pub put_words-requires : goal.put_words-requires
put_words-requires c = (c.requires.0, line-short c.args.t.now c.args.line c.verb_at.ensures.0 c.if-verb_at-eq-CODE.true c.skip_words.result c.skip_words.ensures c.requires.1)

pub returns-then-verb_at-eq-CODE : goal.returns-then-verb_at-eq-CODE
returns-then-verb_at-eq-CODE c =
    let entry = c.args in
    let skip = c.skip_words in
    line_put entry.t.now entry.line c.verb_at.ensures.0 c.if-verb_at-eq-CODE.true skip.result skip.ensures entry.name.now (map (noted entry.t.now) entry.cells.now) c.put_words.ensures

pub returns : goal.returns
returns c =
    let entry = c.args in
    spelt_as c.put_none.ensures (line_other entry.t.now entry.line c.verb_at.ensures.0 c.if-verb_at-eq-CODE.false entry.name.now (map (noted entry.t.now) entry.cells.now))
