-- `booktext::statement::seek` meets its contract, by the invariant that stands beside this. Assumes nothing.
use mathlib.Core.Path.{ap}
use Rattle.booktext.specs.Meaning.{from}
use Rattle.booktext.specs.Standing.{left}
use Rattle.booktext.proofs.Stating.{found-onward, onward_fewer, seek_here, seek_on, seek_over}
use Rattle.booktext.proofs.statement.seek.Goals as goal

pub loop-at-init : goal.loop-at-init
loop-at-init c =
    let a = c.args in
    ap (from a.verb a.name.now) (found-onward a.t.now (left a.t.now) c.next_statement-at.ensures)

pub returns-then-is_of : goal.returns-then-is_of
returns-then-is_of c =
    let a = c.args in
    seek_here a.verb a.name.now a.t.now c.loop-at.invariant c.loop-at-test.true c.is_of.ensures c.if-is_of.true

pub loop-at-smaller : goal.loop-at-smaller
loop-at-smaller c =
    let a = c.args in
    onward_fewer a.t.now (left a.t.now) c.loop-at-test.true c.next_line.ensures c.next_statement-at-in-loop-at.ensures

pub loop-at-preserved : goal.loop-at-preserved
loop-at-preserved c =
    let a = c.args in
    seek_on a.verb a.name.now a.t.now c.loop-at.invariant c.loop-at-test.true c.is_of.ensures c.if-is_of.false c.next_line.ensures c.next_statement-at-in-loop-at.ensures

pub returns : goal.returns
returns c =
    let a = c.args in
    seek_over a.verb a.name.now a.t.now c.loop-at.invariant c.loop-at-test.false
