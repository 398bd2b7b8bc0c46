-- `booktext::heads::note_heads` meets its contract, by the invariant that stands beside this. Assumes nothing.
use Rattle.booktext.specs.Standing.{left}
use Rattle.booktext.proofs.Stating.{onward_fewer}
use Rattle.booktext.proofs.Heading.{heading-start, heading_on}
use Rattle.booktext.proofs.heads.note_heads.Goals as goal

pub loop-at-init : goal.loop-at-init
loop-at-init c =
    let a = c.args in
    heading-start a.t.now a.heads.now c.next_statement-at.ensures

pub shape_of-heads-then-heads-count : goal.shape_of-heads-then-heads-count
shape_of-heads-then-heads-count c = c.loop-at.invariant.same

pub returns-then-heads-count : goal.returns-then-heads-count
returns-then-heads-count c =
    let inv = c.loop-at.invariant in (inv.room, inv.noted)

pub loop-at-smaller : goal.loop-at-smaller
loop-at-smaller c =
    let a = c.args in
    onward_fewer a.t.now (left a.t.now) c.loop-at-test.true c.next_line.ensures c.next_statement-at-in-loop-at.ensures

pub loop-at-preserved : goal.loop-at-preserved
loop-at-preserved c = heading_on _ _ _ _ _ c.loop-at.invariant c.loop-at-test.true c.if-heads-count.false c.next_line.ensures c.next_statement-at-in-loop-at.ensures c.note_head-count.ensures.0 c.note_head-count.ensures.1

pub shape_of-heads : goal.shape_of-heads
shape_of-heads c = c.loop-at.invariant.same

pub returns : goal.returns
returns c =
    let inv = c.loop-at.invariant in (inv.room, inv.noted)
