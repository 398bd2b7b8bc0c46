-- `booktext::refer::first_name_fault` meets its contract, by the invariant that stands beside this. Assumes nothing.
use mathlib.Core.Path.{refl, ◌∙◌}
use native.Mathlib.Omega.{arith}
use Rattle.booktext.specs.Standing.{left}
use Rattle.booktext.proofs.Stating.{onward_fewer}
use Rattle.booktext.proofs.Telling.{row-some}
use Rattle.booktext.proofs.Referring.{naming_start, naming_fault, naming_on, naming_none, naming_done, naming_count}
use Rattle.booktext.proofs.refer.first_name_fault.Goals as goal

pub loop-at-init : goal.loop-at-init
loop-at-init c = naming_start c.args.t.now c.next_statement-at.ensures

pub name_fault-requires : goal.name_fault-requires
name_fault-requires c = c.requires

pub returns-in-Some-clause-told : goal.returns-in-Some-clause-told
returns-in-Some-clause-told c =
    let a = c.args in
    naming_fault a.t.now c.loop-at.sections c.loop-at.at c.loop-at.invariant c.loop-at-test.true c.in-Some.ensures (row-some c.in-Some.row) c.line_of.ensures c.with.ensures

pub overflow_add-sections : goal.overflow_add-sections
overflow_add-sections c = omega (arith, c.loop-at.invariant.few)

pub loop-at-smaller : goal.loop-at-smaller
loop-at-smaller c =
    let a = c.args in
    onward_fewer a.t.now (left a.t.now) c.loop-at-test.true c.next_line.ensures c.next_statement-at-in-loop-at.ensures

pub loop-at-preserved : goal.loop-at-preserved
loop-at-preserved c =
    let a = c.args in
    naming_on a.t.now c.loop-at.sections c.loop-at.at c.loop-at.invariant c.loop-at-test.true c.in_default.ensures refl c.verb_at.ensures.0 c.pick-sections.ensures c.next_line.ensures c.next_statement-at-in-loop-at.ensures

pub returns-then-sections-eq0-clause-told : goal.returns-then-sections-eq0-clause-told
returns-then-sections-eq0-clause-told c =
    let a = c.args in
    c.with-then-sections-eq0.ensures ∙ naming_none a.t.now c.loop-at.sections c.loop-at.at c.loop-at.invariant c.loop-at-test.false c.if-sections-eq0.true

pub returns-clause-told : goal.returns-clause-told
returns-clause-told c =
    let a = c.args in
    naming_done a.t.now c.loop-at.sections c.loop-at.at c.loop-at.invariant c.loop-at-test.false c.if-sections-eq0.false

pub returns-clause-sections : goal.returns-clause-sections
returns-clause-sections c =
    let a = c.args in
    naming_count a.t.now c.loop-at.sections c.loop-at.at c.loop-at.invariant c.loop-at-test.false c.if-sections-eq0.false
