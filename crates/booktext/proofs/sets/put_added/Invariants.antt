-- `booktext::sets::put_added` meets its contract. The invariant of its loop: whoever writes those that the statements left add has written all. Assumes nothing.
use mathlib.Core.List.{map}
use lib.ListN.{drop}
use Rattle.booktext.specs.Changes.{added}
use Rattle.booktext.specs.Standing.{noted}
use Rattle.booktext.proofs.Spelling.{Spells}
use Rattle.booktext.proofs.sets.put_added.Given as goal

abbrev pub invariant-loop-i : goal.invariant-loop-i
invariant-loop-i l = Spells (added l.name (map (noted l.t) l.cells)) (added l.name (map (noted l.t) (drop l.i l.cells))) l.initial.out l.initial.to l.out l.to
