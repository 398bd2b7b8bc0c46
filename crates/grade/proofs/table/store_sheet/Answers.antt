-- `table::store_sheet` meets its contract: the sheet's lines are stored. Assumes nothing.
use native.Mathlib.Omega.{arith}
use lib.ListN.{take}
use lib.Seq.{length-take-le}
use Rattle.grade.specs.Sheet.{held}
use Rattle.grade.proofs.Stored.{sets-part}
use Rattle.grade.proofs.table.store_sheet.Goals as goal

pub returns : goal.returns
unfolding held
returns c =
    let a = c.args in
    let lines = a.sheet.lines in
    let long = length-take-le a.sheet.used lines c.requires.1 in
    sets-part a.table.now (take a.sheet.used lines) _ a.from _ c.copy_from_slice.ensures.after (omega arith) (omega (arith, c.requires.0))
