-- `ack::measure::err_length` meets its contract. Assumes nothing.
use native.Mathlib.Omega.{arith}
use Rattle.ack.proofs.Sizes.{err_size}
use Rattle.ack.proofs.measure.err_length.Goals as goal

pub returns : goal.returns
returns c = (search err_size, omega arith)

pub overflow_add-result : goal.overflow_add-result
overflow_add-result c = omega arith

pub overflow_add-result-2 : goal.overflow_add-result-2
overflow_add-result-2 c = omega arith

pub overflow_add-result-3 : goal.overflow_add-result-3
overflow_add-result-3 c = omega arith
