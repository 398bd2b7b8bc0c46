-- `booktext::before::first_rule_fault` meets its contract, by the invariant that stands beside this. Assumes nothing.
use mathlib.Core.Path.{refl, sym, ◌∙◌}
use Rattle.booktext.proofs.Telling.{row-some}
use Rattle.booktext.proofs.Preceding.{fault-told, fault_more, fault-over}
use Rattle.booktext.proofs.before.first_rule_fault.Goals as goal

pub returns-in-Some : goal.returns-in-Some
returns-in-Some c =
    let a = c.args in
    fault-told a.t.now a.cells.now a.head c.loop-i.i c.loop-i-test.true c.in-Some.ensures (row-some c.in-Some.row) c.line_of.ensures c.line_of-in-Some.ensures c.in_section.ensures
    ∙ sym c.loop-i.invariant

pub loop-i-preserved : goal.loop-i-preserved
loop-i-preserved c =
    let a = c.args in
    c.loop-i.invariant ∙ fault_more a.t.now a.cells.now a.head c.loop-i.i c.loop-i-test.true c.in_default.ensures refl

pub returns : goal.returns
returns c =
    let a = c.args in
    sym (c.loop-i.invariant ∙ fault-over a.t.now a.cells.now a.head c.loop-i.i c.loop-i-test.false)
