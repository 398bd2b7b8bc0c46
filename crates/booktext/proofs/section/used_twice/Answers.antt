-- `booktext::section::used_twice` meets its contract, by the invariant that stands beside this. Assumes nothing.
use mathlib.Core.Path.{ap}
use Rattle.booktext.specs.Lines.{line_of}
use Rattle.booktext.specs.Refusals.{used_twice}
use Rattle.booktext.specs.Standing.{left, body_from}
use Rattle.booktext.proofs.Stating.{found-onward, onward_fewer}
use Rattle.booktext.proofs.Noting.{twice_here, twice_on, twice_over}
use Rattle.booktext.proofs.section.used_twice.Goals as goal

pub loop-at-init : goal.loop-at-init
loop-at-init c =
    let a = c.args in
    ap (used_twice a.t.now (line_of a.t.now a.head) (left a.t.now a.start)) (found-onward a.t.now (body_from a.t.now) c.next_in_body-at.ensures)

pub loop-at-smaller : goal.loop-at-smaller
loop-at-smaller c =
    let a = c.args in
    onward_fewer a.t.now (body_from a.t.now) c.loop-at-test.true c.next_line.ensures c.next_in_body-at-in-loop-at.ensures

pub returns-then-is_repeated : goal.returns-then-is_repeated
returns-then-is_repeated c =
    let a = c.args in
    twice_here a.t.now a.head a.start c.loop-at.at c.loop-at.invariant c.loop-at-test.true c.is_repeated.ensures c.if-is_repeated.true c.in_section.ensures c.line_of.ensures c.line_of-then-is_repeated.ensures

pub loop-at-preserved : goal.loop-at-preserved
loop-at-preserved c =
    let a = c.args in
    twice_on a.t.now a.head a.start c.loop-at.at c.loop-at.invariant c.loop-at-test.true c.is_repeated.ensures c.if-is_repeated.false c.next_line.ensures c.next_in_body-at-in-loop-at.ensures

pub returns : goal.returns
returns c =
    let a = c.args in
    twice_over a.t.now a.head a.start c.loop-at.at c.loop-at.invariant c.loop-at-test.false
