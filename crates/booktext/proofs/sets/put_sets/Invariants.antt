-- `booktext::sets::put_sets` meets its contract. The invariant of its loop: the first bad set of all is the first bad one of those that are left, and whoever puts
-- these has put all. Assumes nothing.
use mathlib.Core.List.{map}
use Rattle.booktext.specs.Standing.{names_in, noted}
use Rattle.booktext.proofs.Setting.{SetsLeft, names_from}
use Rattle.booktext.proofs.sets.put_sets.Given as goal

abbrev pub invariant-loop-i : goal.invariant-loop-i
invariant-loop-i l = SetsLeft l.t l.head (map (noted l.t) l.cells) (names_in l.t l.names) (names_from l.t l.names l.i) l.initial.out l.at l.out l.to
