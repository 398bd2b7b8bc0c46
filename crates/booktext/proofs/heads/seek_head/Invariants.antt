-- `booktext::heads::seek_head` meets its contract. The invariant of its loop: none of the noted ones passed has the verb and the name. Assumes nothing.
use mathlib.Core.Path.{◌≡◌}
use lib.ListN.{drop}
use Rattle.booktext.specs.Lines.{statements}
use Rattle.booktext.specs.Meaning.{from}
use Rattle.booktext.specs.Standing.{left, from_noted}
use Rattle.booktext.proofs.heads.seek_head.Given as goal

abbrev pub invariant-loop-at : goal.invariant-loop-at
invariant-loop-at l = from_noted l.t l.verb l.name (drop l.at-index l.heads) (from l.verb l.name (left l.t l.rest)) ≡ from l.verb l.name (statements l.t)
