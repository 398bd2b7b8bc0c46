-- `grade::within::next_value` meets its contract: the repetitions passed are fine, so the numbers that are to come from here on are those that
-- were to come from `at` on. Assumes nothing.
use Prim.Native.Nat.{◌≤◌, ◌+◌, ◌-◌}
use mathlib.Core.Path.{◌≡◌}
use mathlib.Core.Bool.{true}
use lib.ListN.{length}
use Rattle.hl7.specs.Bytes.{all, differs}
use Rattle.hl7.specs.Refusals.{message_limit}
use Rattle.grade.specs.Rest.{CodesStand, broken_from}
use Rattle.grade.proofs.within.next_value.Given as goal

abbrev pub invariant-loop-from : goal.invariant-loop-from
invariant-loop-from l = (length l.fld ≤ message_limit) × (l.done ≤ l.from) × CodesStand l.book l.rule.kind l.codes × (l.single ≡ true → all (differs l.d.tilde) l.fld ≡ true) × (broken_from l.d l.fld l.book l.rule l.codes l.at l.passed ≡ broken_from l.d l.fld l.book l.rule l.codes l.from l.done)

abbrev pub decreases-loop-from : goal.decreases-loop-from
decreases-loop-from l = length l.fld + 1 - l.from
