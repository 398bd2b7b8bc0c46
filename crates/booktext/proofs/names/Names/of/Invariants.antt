-- `booktext::names::Names::of` meets its contract. The invariant of its loop: whoever notes the names in the cells left has noted all. Assumes nothing.
use mathlib.Core.Path.{◌≡◌}
use mathlib.Core.List.{map}
use lib.ListN.{drop}
use Rattle.booktext.specs.Contents.{with_names, named, names_of}
use Rattle.booktext.specs.Standing.{noted, names_in}
use Rattle.booktext.proofs.names.Names.of.Given as goal

abbrev pub invariant-loop-cell : goal.invariant-loop-cell
invariant-loop-cell l = names_of (map (noted l.t) l.cells) ≡ with_names (names_in l.t l.names) (named (map (noted l.t) (drop l.cell-index l.cells)))
