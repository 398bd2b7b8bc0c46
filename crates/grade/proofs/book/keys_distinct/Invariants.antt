-- `grade::book::keys_distinct` meets its contract: the texts that are left are distinct as all of them are. Assumes nothing.
use Prim.Native.Nat.{ℕ, ◌<◌}
use mathlib.Core.Path.{◌≡◌}
use mathlib.Core.List.{map}
use lib.ListN.{length, get_or}
use Rattle.grade.specs.Book.{distinct}
use Rattle.grade.specs.Standing.{text_at, TextFits}
use Rattle.grade.proofs.book.keys_distinct.Given as goal

abbrev pub invariant-loop-at : goal.invariant-loop-at
invariant-loop-at l = ((k : ℕ) → k < length l.rest → TextFits l.book (get_or l.rest k 0)) × (distinct (map (text_at l.book) l.rest) ≡ distinct (map (text_at l.book) l.starts))

abbrev pub decreases-loop-at : goal.decreases-loop-at
decreases-loop-at l = length l.rest
