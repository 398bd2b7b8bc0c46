-- `booktext::names::Names::number_of` meets its contract. The invariant of its loop: the name is none of those passed. Assumes nothing.
use mathlib.Core.Path.{◌≡◌}
use Prim.Native.Nat.{◌+◌}
use Rattle.booktext.specs.Lines.{number_from}
use Rattle.booktext.specs.Standing.{names_in}
use Rattle.booktext.proofs.Naming.{names_left}
use Rattle.booktext.proofs.names.Names.number_of.Given as goal

abbrev pub invariant-loop-i : goal.invariant-loop-i
invariant-loop-i l = number_from 1 l.name (names_in l.t l.self) ≡ number_from (l.i + 1) l.name (names_left l.t l.self.spans l.self.count l.i)
