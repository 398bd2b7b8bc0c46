-- `ack::output::Output::put_decimal` meets its contract: the number falls at each call. Assumes nothing.
use Rattle.ack.proofs.output.Output.+put_decimal.Given as goal

abbrev pub decreases-put_decimal : goal.decreases-put_decimal
decreases-put_decimal l = l.n
