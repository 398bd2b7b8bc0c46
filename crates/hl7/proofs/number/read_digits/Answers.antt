-- `hl7::number::read_digits` meets its contract, by the invariant that stands beside this. Assumes nothing.
use Rattle.hl7.proofs.Numbering.{read_none, read_more}
use Rattle.hl7.proofs.number.read_digits.Goals as goal

pub loop-x-init : goal.loop-x-init
loop-x-init c = read_none _

pub loop-x-preserved : goal.loop-x-preserved
loop-x-preserved c = read_more _ c.loop-x.invariant c.loop-x-test.true c.is_ascii_digit-all.ensures.value c.with_digit-value.ensures
