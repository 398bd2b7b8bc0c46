-- `booktext::before::names_code` meets its contract: the words after the name are those from the third on. Assumes nothing.
use mathlib.Core.Path.{ap}
use mathlib.Core.Bool.{not}
use Rattle.booktext.proofs.Preceding.{names_other, names-this}
use Rattle.booktext.proofs.before.names_code.Goals as goal

pub returns-then-not-same_bytes : goal.returns-then-not-same_bytes
returns-then-not-same_bytes c =
    let a = c.args in
    names_other a.t.now a.name.now a.code.now a.at c.word_of.ensures c.same_bytes.ensures (ap not c.if-not-same_bytes.true)

pub returns : goal.returns
returns c =
    let a = c.args in
    names-this a.t.now a.name.now a.code.now a.at c.word_of.ensures c.same_bytes.ensures (ap not c.if-not-same_bytes.false) c.skip_words.result c.skip_words.ensures c.has_word.ensures
