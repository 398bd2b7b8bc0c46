-- `hl7::number::read_digits` meets its contract. The invariant of its loop: what was read so far, and its value, counted. Assumes nothing.
use Rattle.hl7.proofs.Numbering.{Read}
use Rattle.hl7.proofs.number.read_digits.Given as goal

abbrev pub invariant-loop-x : goal.invariant-loop-x
invariant-loop-x l = Read l.text l.all l.value l.x-index
