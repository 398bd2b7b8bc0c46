-- `booktext::rules::put_rules` meets its contract. The invariant of its loop: whoever writes the rules of the cells left has written all. Assumes nothing.
use mathlib.Core.Path.{◌≡◌}
use mathlib.Core.Bool.{true}
use mathlib.Core.List.{map}
use lib.ListN.{drop}
use Rattle.grade.specs.Encoding.{each}
use Rattle.booktext.specs.Standing.{noted, names_in, ready}
use Rattle.booktext.proofs.Completing.{Completes}
use Rattle.booktext.proofs.Ruling.{spelt_from}
use Rattle.booktext.proofs.rules.put_rules.Given as goal

abbrev pub invariant-loop-cell : goal.invariant-loop-cell
invariant-loop-cell l = (each ready (map (noted l.t) (drop l.cell-index l.cells)) ≡ true) × Completes (spelt_from (names_in l.t l.names) l.t l.cells 0) (spelt_from (names_in l.t l.names) l.t l.cells l.cell-index) l.initial.out l.at l.out l.to
