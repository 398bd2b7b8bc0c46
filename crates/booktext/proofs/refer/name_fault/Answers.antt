-- `booktext::refer::name_fault` meets its contract: each way out is one of the rows. Assumes nothing.
use Rattle.booktext.specs.Lines.{statements}
use Rattle.booktext.specs.Standing.{statement_at}
use Rattle.booktext.proofs.Referring.{fault_double, fault_many, fault_last}
use Rattle.booktext.proofs.refer.name_fault.Goals as goal

pub returns-then-is_double : goal.returns-then-is_double
returns-then-is_double c =
    let a = c.args in
    fault_double (statements a.t.now) a.count (statement_at a.t.now a.at 0) c.is_double.ensures c.if-is_double.true

pub returns-then-verb_at-count : goal.returns-then-verb_at-count
returns-then-verb_at-count c =
    let a = c.args in
    fault_many (statements a.t.now) a.count (statement_at a.t.now a.at 0) c.is_double.ensures c.if-is_double.false c.verb_at.ensures.0 c.if-verb_at-count.true

pub returns-then-lacks_name : goal.returns-then-lacks_name
returns-then-lacks_name c =
    let a = c.args in
    fault_last (statements a.t.now) a.count (statement_at a.t.now a.at 0) c.is_double.ensures c.if-is_double.false c.verb_at.ensures.0 c.if-verb_at-count.false c.lacks_name.ensures c.if-lacks_name.true

pub returns : goal.returns
returns c =
    let a = c.args in
    fault_last (statements a.t.now) a.count (statement_at a.t.now a.at 0) c.is_double.ensures c.if-is_double.false c.verb_at.ensures.0 c.if-verb_at-count.false c.lacks_name.ensures c.if-lacks_name.false
