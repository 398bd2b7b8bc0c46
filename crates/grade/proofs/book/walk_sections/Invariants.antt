-- `grade::book::walk_sections` meets its contract: the starts noted so far, put before those of the sections that are left, are all the starts. Assumes nothing.
use Prim.Native.Nat.{◌-◌}
use mathlib.Core.Path.{◌≡◌}
use lib.ListN.{take}
use Rattle.grade.specs.Reader.{times}
use Rattle.grade.specs.Book.{section}
use Rattle.grade.specs.Standing.{starting}
use Rattle.grade.proofs.Readings.{after}
use Rattle.grade.proofs.book.walk_sections.Given as goal

abbrev pub invariant-loop-i : goal.invariant-loop-i
invariant-loop-i l = times l.count (starting section) l.book l.at ≡ after (take l.i l.starts) (times (l.count - l.i) (starting section) l.book l.from)
