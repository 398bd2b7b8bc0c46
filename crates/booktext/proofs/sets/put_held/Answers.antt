-- `booktext::sets::put_held` meets its contract. Assumes nothing.
use mathlib.Core.List.{map}
use Rattle.booktext.specs.Lines.{statements}
use Rattle.booktext.specs.Standing.{noted}
use Rattle.booktext.proofs.Spelling.{held_put}
use Rattle.booktext.proofs.sets.put_held.Goals as goal

pub returns : goal.returns
returns c =
    let entry = c.args in
    held_put (statements entry.t.now) (map (noted entry.t.now) entry.cells.now) entry.name.now c.put_own-own.ensures c.put_added.ensures
