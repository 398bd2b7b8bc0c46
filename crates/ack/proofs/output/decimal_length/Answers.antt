-- `ack::output::decimal_length` meets its contract. Assumes nothing.
use native.Mathlib.Omega.{arith}
use Rattle.ack.proofs.Decimals.{one_digit, digits}
use Rattle.ack.proofs.output.decimal_length.Goals as goal

pub returns-then-n-lt10 : goal.returns-then-n-lt10
returns-then-n-lt10 c = one_digit _ (omega arith)

pub returns : goal.returns
returns c = digits _ _ c.ilog10.ensures.bound c.ilog10.ensures.power_le c.ilog10.ensures.next_power_gt
