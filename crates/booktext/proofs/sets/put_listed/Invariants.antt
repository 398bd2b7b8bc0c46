-- `booktext::sets::put_listed` meets its contract. The invariant of its loop: whoever writes those of the lines still to come has written all. Assumes nothing.
use mathlib.Core.Path.{◌≡◌}
use mathlib.Core.Bool.{true}
use mathlib.Core.List.{map}
use lib.ListN.{length}
use Rattle.grade.specs.Encoding.{each}
use Rattle.booktext.specs.Changes.{kept}
use Rattle.booktext.specs.Contents.{listed}
use Rattle.booktext.specs.Standing.{body_from, is_short, noted}
use Rattle.booktext.proofs.Stating.{onward}
use Rattle.booktext.proofs.Spelling.{Spells}
use Rattle.booktext.proofs.sets.put_listed.Given as goal

abbrev pub invariant-loop-at : goal.invariant-loop-at
invariant-loop-at l = (each is_short (listed (onward l.t (body_from l.t) l.at)) ≡ true)
    × Spells (kept l.name (map (noted l.t) l.cells) (listed (body_from l.t l.start))) (kept l.name (map (noted l.t) l.cells) (listed (onward l.t (body_from l.t) l.at))) l.initial.out l.initial.to l.out l.to

abbrev pub decreases-loop-at : goal.decreases-loop-at
decreases-loop-at l = length (onward l.t (body_from l.t) l.at)
