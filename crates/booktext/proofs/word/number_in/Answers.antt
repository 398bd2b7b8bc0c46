-- `booktext::word::number_in` meets its contract. Assumes nothing.
use native.Mathlib.Omega.{arith}
use Rattle.booktext.proofs.Reading.{number_small, number_read, number-none}
use Rattle.booktext.proofs.word.number_in.Goals as goal

pub overflow_cast-result : goal.overflow_cast-result
overflow_cast-result c = omega (arith, number_small _ c.read_digits-read.ensures c.byte_at.ensures c.if-fits.true)

pub returns-then-fits : goal.returns-then-fits
returns-then-fits c = number_read _ c.read_digits-read.ensures c.byte_at.ensures c.if-fits.true

pub returns-else-fits : goal.returns-else-fits
returns-else-fits c = number-none _ c.read_digits-read.ensures c.byte_at.ensures c.if-fits.false
