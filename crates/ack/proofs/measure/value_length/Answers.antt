-- `ack::measure::value_length` meets its contract. Assumes nothing.
use mathlib.Core.Path.{ap}
use native.Mathlib.Omega.{arith}
use lib.ListN.{length}
use Rattle.ack.proofs.Lines.{value_none}
use Rattle.ack.proofs.Sizes.{value_size}
use Rattle.ack.proofs.measure.value_length.Goals as goal

pub returns-then-finding-eq0 : goal.returns-then-finding-eq0
returns-then-finding-eq0 c = (λ mark. ap length (value_none mark _ c.if-finding-eq0.true), omega arith)

pub returns : goal.returns
returns c = (search value_size, omega arith)

pub overflow_add-result : goal.overflow_add-result
overflow_add-result c = omega arith

pub overflow_add-result-2 : goal.overflow_add-result-2
overflow_add-result-2 c = omega arith

pub overflow_add-result-3 : goal.overflow_add-result-3
overflow_add-result-3 c = omega arith
