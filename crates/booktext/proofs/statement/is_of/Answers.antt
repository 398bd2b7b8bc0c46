-- `booktext::statement::is_of` meets its contract. Assumes nothing.
use mathlib.Core.Path.{ap}
use mathlib.Core.Bool.{not}
use Rattle.booktext.proofs.Stating.{other_name, same_name}
use Rattle.booktext.proofs.statement.is_of.Goals as goal

pub returns-then-not-same_bytes : goal.returns-then-not-same_bytes
returns-then-not-same_bytes c =
    let a = c.args in
    other_name a.t.now a.name.now a.at a.verb c.word_of.ensures c.same_bytes.ensures (ap not c.if-not-same_bytes.true)

pub returns : goal.returns
returns c =
    let a = c.args in
    same_name a.t.now a.name.now a.at a.verb c.word_of.ensures c.same_bytes.ensures (ap not c.if-not-same_bytes.false) c.verb_at.ensures.0
