-- `grade::lookup::among_codes` meets its contract. The invariant of its loop: the value is among the codes that are left as it is among all. Assumes nothing.
use Prim.Native.Nat.{◌-◌}
use Rattle.grade.proofs.Coding.{CodesToLookAt}
use Rattle.grade.proofs.lookup.among_codes.Given as goal

abbrev pub invariant-loop : goal.invariant-loop
invariant-loop l = CodesToLookAt l.book l.value l.count l.at (l.count - l.counter) l.from
