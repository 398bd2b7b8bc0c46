-- `booktext::heads::note_head` meets its contract. Assumes nothing.
use Rattle.booktext.proofs.Heading.{head-told}
use Rattle.booktext.proofs.heads.note_head.Goals as goal

pub returns-then-is_within : goal.returns-then-is_within
returns-then-is_within c =
    let a = c.args in
    head-told a.t.now a.at c.verb_at.ensures.0 c.is_within.ensures a.heads.now a.count c.if-is_within.true

pub returns : goal.returns
returns c =
    let a = c.args in
    head-told a.t.now a.at c.verb_at.ensures.0 c.is_within.ensures a.heads.now a.count c.if-is_within.false
