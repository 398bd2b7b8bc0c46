-- `booktext::before::first_rule_fault` meets its contract. The invariant of its loop: the first fault is that of the cells left, after those passed. Assumes nothing.
use mathlib.Core.Path.{◌≡◌}
use Rattle.booktext.proofs.Preceding.{fault_from}
use Rattle.booktext.proofs.before.first_rule_fault.Given as goal

abbrev pub invariant-loop-i : goal.invariant-loop-i
invariant-loop-i l = fault_from l.t l.cells l.head 0 ≡ fault_from l.t l.cells l.head l.i
