-- `difference::difference::find_key` meets its contract. The loop's invariant: the place among all is so many after that among those left. Assumes nothing.
use mathlib.Core.Path.{◌≡◌}
use mathlib.Core.List.{map}
use Prim.Native.Nat.{◌+◌}
use lib.ListN.{drop}
use Rattle.grade.specs.Standing.{text_at}
use Rattle.difference.specs.Ruled.{key_place}
use Rattle.difference.proofs.difference.find_key.Given as goal

abbrev pub invariant-loop-i : goal.invariant-loop-i
invariant-loop-i l = key_place l.key (map (text_at l.book) l.starts) ≡ l.i + key_place l.key (map (text_at l.book) (drop l.i l.starts))
