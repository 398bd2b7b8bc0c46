-- `booktext::statement::next_in_body` meets its contract: each way out is a case of `body`. Assumes nothing.
use mathlib.Core.Path.{refl}
use Rattle.booktext.proofs.Stating.{body-over, body-ends, body-goes}
use Rattle.booktext.proofs.statement.next_in_body.Goals as goal

pub returns-then-t-at : goal.returns-then-t-at
returns-then-t-at c =
    let a = c.args in
    body-over a.t.now a.from c.next_statement-at.ensures c.if-t-at.true

pub returns-then-is_head : goal.returns-then-is_head
returns-then-is_head c =
    let a = c.args in
    body-ends a.t.now a.from c.next_statement-at.ensures c.if-t-at.false c.verb_at.ensures.0 c.is_head.ensures c.if-is_head.true refl

pub returns : goal.returns
returns c =
    let a = c.args in
    body-goes a.t.now a.from c.next_statement-at.ensures c.if-t-at.false c.verb_at.ensures.0 c.is_head.ensures c.if-is_head.false
