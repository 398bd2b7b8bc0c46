-- `ack::output::Output::put_decimal` meets its contract: a number below ten is its digit, a larger one those of its tenth and its last digit. Assumes nothing.
use Rattle.std.proofs.Common.{arith}
use Rattle.ack.proofs.Adding.{◌next◌}
use Rattle.ack.proofs.Decimals.{decimal-small, decimal_large}
use Rattle.ack.proofs.output.Output.+put_decimal.Goals as goal

pub returns-then-n-lt10 : goal.returns-then-n-lt10
returns-then-n-lt10 t c = rw (decimal-small c.args.n c.if-n-lt10.true) c.put_byte.ensures

pub returns-else-n-lt10 : goal.returns-else-n-lt10
returns-else-n-lt10 t c = rw (decimal_large c.args.n c.if-n-lt10.false (omega arith)) (c.put_decimal.ensures next c.put_byte-else-n-lt10.ensures)
