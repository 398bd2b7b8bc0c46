-- `booktext::before::is_listed` meets its contract, by the invariant that stands beside this. Assumes nothing.
use mathlib.Core.Path.{ap}
use mathlib.Core.List.{List}
use Rattle.hl7.specs.Bytes.{among}
use Rattle.booktext.specs.Lines.{Statement}
use Rattle.booktext.specs.Contents.{listed}
use Rattle.booktext.specs.Standing.{body_from}
use Rattle.booktext.proofs.Stating.{found-onward, onward_fewer}
use Rattle.booktext.proofs.Preceding.{list_here, list_later, list_over}
use Rattle.booktext.proofs.before.is_listed.Goals as goal

pub loop-at-init : goal.loop-at-init
loop-at-init c =
    let a = c.args in
    ap (λ (ss : List Statement). among a.code.now (listed ss)) (found-onward a.t.now (body_from a.t.now) c.next_in_body-at.ensures)

pub loop-at-smaller : goal.loop-at-smaller
loop-at-smaller c =
    let a = c.args in
    onward_fewer a.t.now (body_from a.t.now) c.loop-at-test.true c.next_line.ensures c.next_in_body-at-in-loop-at.ensures

pub returns-then-lists_code : goal.returns-then-lists_code
returns-then-lists_code c =
    let a = c.args in
    list_here a.t.now a.code.now c.loop-at.at c.loop-at.invariant c.loop-at-test.true c.lists_code.ensures c.if-lists_code.true

pub loop-at-preserved : goal.loop-at-preserved
loop-at-preserved c =
    let a = c.args in
    list_later a.t.now a.code.now c.loop-at.at c.loop-at.invariant c.loop-at-test.true c.lists_code.ensures c.if-lists_code.false c.next_line.ensures c.next_in_body-at-in-loop-at.ensures

pub returns : goal.returns
returns c =
    let a = c.args in
    list_over a.t.now a.code.now c.loop-at.at c.loop-at.invariant c.loop-at-test.false
