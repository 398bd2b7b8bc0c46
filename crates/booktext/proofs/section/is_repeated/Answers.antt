-- `booktext::section::is_repeated` meets its contract. Assumes nothing.
use Rattle.booktext.specs.Standing.{left, statement_at}
use Rattle.booktext.proofs.Noting.{repeated_use, repeated_no}
use Rattle.booktext.proofs.section.is_repeated.Goals as goal

pub returns-then-verb_at-eq-USE : goal.returns-then-verb_at-eq-USE
returns-then-verb_at-eq-USE c =
    let a = c.args in
    repeated_use (left a.t.now a.start) (statement_at a.t.now a.at 0) c.verb_at.ensures.0 c.if-verb_at-eq-USE.true c.is_first.ensures

pub returns : goal.returns
returns c =
    let a = c.args in
    repeated_no (left a.t.now a.start) (statement_at a.t.now a.at 0) c.verb_at.ensures.0 c.if-verb_at-eq-USE.false
