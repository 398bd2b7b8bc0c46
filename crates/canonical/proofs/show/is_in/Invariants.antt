-- `canonical::show::is_in` meets its contract. The invariant of its loop: the number was passed, or is among those left. Assumes nothing.
use mathlib.Core.Path.{◌≡◌}
use mathlib.Core.Bool.{◌||◌}
use lib.ListN.{drop}
use Rattle.hl7.specs.Bytes.{is_in}
use Rattle.canonical.proofs.show.is_in.Given as goal

abbrev pub invariant-loop-spot : goal.invariant-loop-spot
invariant-loop-spot l = is_in l.x l.spots ≡ (l.any || is_in l.x (drop l.spot-index l.spots))
