-- `booktext::sets::is_lessened` meets its contract. The invariant of its loop: one of all takes the code just where one of those that are left does. Assumes nothing.
use mathlib.Core.Path.{◌≡◌}
use mathlib.Core.List.{map}
use lib.ListN.{drop}
use Rattle.booktext.specs.Changes.{lessened}
use Rattle.booktext.specs.Standing.{noted}
use Rattle.booktext.proofs.sets.is_lessened.Given as goal

abbrev pub invariant-loop-cell : goal.invariant-loop-cell
invariant-loop-cell l = lessened l.name l.code (map (noted l.t) l.cells) ≡ lessened l.name l.code (map (noted l.t) (drop l.cell-index l.cells))
