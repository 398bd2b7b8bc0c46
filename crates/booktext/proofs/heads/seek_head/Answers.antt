-- `booktext::heads::seek_head` meets its contract, by the invariant that stands beside this. Assumes nothing.
use Rattle.booktext.proofs.Heading.{head-here, head_on, head-over}
use Rattle.booktext.proofs.heads.seek_head.Goals as goal

pub loop-at-init : goal.loop-at-init
loop-at-init c = c.requires.0.whole c.args.verb c.args.name.now c.requires.1

pub returns-then-is_of : goal.returns-then-is_of
returns-then-is_of c =
    let a = c.args in
    head-here a.t.now a.heads.now a.rest a.verb a.name.now c.loop-at.at-index c.loop-at.invariant c.loop-at-test.true c.is_of.ensures c.requires.0 c.if-is_of.true

pub loop-at-preserved : goal.loop-at-preserved
loop-at-preserved c =
    let a = c.args in
    head_on a.t.now a.heads.now a.rest a.verb a.name.now c.loop-at.at-index c.loop-at.invariant c.loop-at-test.true c.is_of.ensures c.if-is_of.false

pub returns : goal.returns
returns c =
    let a = c.args in
    head-over a.t.now a.heads.now a.rest a.verb a.name.now c.loop-at.at-index c.loop-at.invariant c.loop-at-test.false c.seek.ensures
