-- `booktext::sets::put_added` meets its contract, by the invariant that stands beside this. Assumes nothing.
use Rattle.booktext.proofs.Fitting.{added-short}
use Rattle.booktext.proofs.Spelling.{spells_over, added_more, added-over}
use Rattle.booktext.proofs.sets.put_added.Goals as goal

pub put_more-to-requires : goal.put_more-to-requires
put_more-to-requires c =
    let here = c.loop-i-test.true in
    (c.requires.0, here, added-short c.args.t.now c.args.name.now c.args.cells.now c.loop-i.i c.requires.1 here)

pub loop-i-preserved : goal.loop-i-preserved
loop-i-preserved c =
    let entry = c.args in
    added_more entry.t.now entry.name.now entry.cells.now c.loop-i.i c.loop-i-test.true c.loop-i.invariant c.put_more-to.ensures

pub returns : goal.returns
returns c =
    let entry = c.args in
    spells_over c.loop-i.invariant (added-over entry.t.now entry.name.now entry.cells.now c.loop-i.i c.loop-i-test.false) c.put_none.ensures
