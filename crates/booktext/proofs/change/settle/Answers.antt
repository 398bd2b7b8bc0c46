-- `booktext::change::settle` meets its contract, by the invariant that stands beside this. Assumes nothing.
use native.Mathlib.Omega.{arith}
use Rattle.std.proofs.lemmas.List.Elements.{All-take}
use Rattle.booktext.specs.Standing.{Marked}
use Rattle.booktext.proofs.Changing.{settling_start, settling_on, settling_done}
use Rattle.booktext.proofs.change.settle.Goals as goal

pub loop-i-init : goal.loop-i-init
loop-i-init c = settling_start c.args.t.now c.args.cells.now c.requires

pub settle_one-count-requires : goal.settle_one-count-requires
settle_one-count-requires c = (c.loop-i.invariant.marks, omega (arith, c.loop-i-test.true, c.loop-i.auto.cells), c.loop-i.invariant.few)

pub loop-i-preserved : goal.loop-i-preserved
loop-i-preserved c = settling_on _ _ _ _ _ c.loop-i.invariant (omega (arith, c.loop-i-test.true, c.loop-i.auto.cells)) _ _ c.settle_one-count.ensures

pub returns : goal.returns
returns c =
    let done = settling_done _ _ _ _ _ c.loop-i.invariant (omega (arith, c.loop-i-test.false, c.loop-i.auto.cells)) in
    (omega (arith, c.loop-i.invariant.few, c.loop-i.auto.i-end), done, All-take (Marked c.args.t.now) c.loop-i.count c.loop-i.cells c.loop-i.invariant.marks)
