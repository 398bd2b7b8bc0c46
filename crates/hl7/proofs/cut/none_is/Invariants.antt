-- `hl7::cut::none_is` meets its contract. The invariant of its loop: no byte is d if none passed was and none left is.
-- Assumes nothing.
use mathlib.Core.Path.{◌≡◌}
use mathlib.Core.Bool.{◌&&◌}
use lib.ListN.{drop}
use Rattle.hl7.specs.Bytes.{all, differs}
use Rattle.hl7.proofs.cut.none_is.Given as goal

abbrev pub invariant-loop-x : goal.invariant-loop-x
invariant-loop-x l = all (differs l.d) l.v ≡ l.none && all (differs l.d) (drop l.x-index l.v)
