-- `booktext::before::has_own` meets its contract: a set's codes are those of its own line after its name, and those of its code lines. Assumes nothing.
use Rattle.booktext.proofs.Preceding.{own-none, own-here, own-listed}
use Rattle.booktext.proofs.before.has_own.Goals as goal

pub returns-then-t-line : goal.returns-then-t-line
returns-then-t-line c =
    let a = c.args in
    own-none a.t.now a.name.now a.code.now c.seek_head-line.ensures c.if-t-line.true

pub returns-then-has_word : goal.returns-then-has_word
returns-then-has_word c =
    let a = c.args in
    own-here a.t.now a.name.now a.code.now c.seek_head-line.ensures c.if-t-line.false c.skip_words.result c.skip_words.ensures c.has_word.ensures c.if-has_word.true

pub returns : goal.returns
returns c =
    let a = c.args in
    own-listed a.t.now a.name.now a.code.now c.seek_head-line.ensures c.if-t-line.false c.skip_words.result c.skip_words.ensures c.has_word.ensures c.if-has_word.false c.next_line.ensures c.is_listed.ensures
