-- `booktext::sets::put_words` meets its contract. The invariant of its loop: whoever writes those of the words left has written all. Assumes nothing.
use mathlib.Core.Path.{◌≡◌}
use mathlib.Core.Bool.{true}
use mathlib.Core.List.{map}
use lib.ListN.{length}
use Rattle.grade.specs.Encoding.{each}
use Rattle.booktext.specs.Changes.{kept}
use Rattle.booktext.specs.Standing.{words_from, is_short, noted}
use Rattle.booktext.proofs.Spelling.{Spells}
use Rattle.booktext.proofs.sets.put_words.Given as goal

abbrev pub invariant-loop-w : goal.invariant-loop-w
invariant-loop-w l = (each is_short (words_from l.t l.i) ≡ true)
    × Spells (kept l.name (map (noted l.t) l.cells) (words_from l.t l.from)) (kept l.name (map (noted l.t) l.cells) (words_from l.t l.i)) l.initial.out l.initial.to l.out l.to

abbrev pub decreases-loop-w : goal.decreases-loop-w
decreases-loop-w l = length (words_from l.t l.i)
