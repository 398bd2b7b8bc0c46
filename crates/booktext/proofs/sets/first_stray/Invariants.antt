-- `booktext::sets::first_stray` meets its contract. The invariant of its loop: the first one of all is the first one of those that are left. Assumes nothing.
use mathlib.Core.Path.{◌≡◌}
use mathlib.Core.List.{map}
use lib.ListN.{drop}
use Rattle.booktext.specs.Lines.{line_of}
use Rattle.booktext.specs.Refusals.{first_stray}
use Rattle.booktext.specs.Standing.{noted, names_in}
use Rattle.booktext.proofs.sets.first_stray.Given as goal

abbrev pub invariant-loop-cell : goal.invariant-loop-cell
invariant-loop-cell l = first_stray l.t (line_of l.t l.head) (names_in l.t l.names) (map (noted l.t) l.cells) ≡ first_stray l.t (line_of l.t l.head) (names_in l.t l.names) (map (noted l.t) (drop l.cell-index l.cells))
