-- `grade::lookup::note_sets` meets its contract: the places noted so far, put before those of the sets that are left, are all the places.
-- Assumes nothing.
use Prim.Native.Nat.{ℕ, ◌-◌, ◌≤◌}
use mathlib.Core.Path.{◌≡◌}
use mathlib.Core.Bool.{true}
use lib.ListN.{length, get_or, take}
use Rattle.grade.specs.Limits.{set_limit}
use Rattle.grade.specs.Reader.{is_found, times}
use Rattle.grade.specs.Standing.{starting}
use Rattle.grade.specs.Book.{code_set}
use Rattle.grade.proofs.Readings.{after}
use Rattle.grade.proofs.lookup.note_sets.Given as goal

abbrev pub invariant-loop-i : goal.invariant-loop-i
invariant-loop-i l = (l.count ≤ set_limit) × (length l.places ≡ set_limit) × (is_found (times l.count (starting code_set) l.book l.at) ≡ true)
    × (times l.count (starting code_set) l.book l.at ≡ after (take l.i l.places) (times (l.count - l.i) (starting code_set) l.book l.from))
    × ((k : ℕ) → l.i ≤ k → get_or l.places k 0 ≡ 0)
