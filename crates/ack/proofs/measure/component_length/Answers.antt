-- `ack::measure::component_length` meets its contract. Assumes nothing.
use mathlib.Core.Path.{ap}
use native.Mathlib.Omega.{arith}
use lib.ListN.{length}
use Rattle.ack.proofs.Lines.{component-none}
use Rattle.ack.proofs.Sizes.{component_size}
use Rattle.ack.proofs.measure.component_length.Goals as goal

pub returns-then-component-eq0 : goal.returns-then-component-eq0
returns-then-component-eq0 c = (λ mark. ap length (component-none mark _ c.if-component-eq0.true), omega arith)

pub returns : goal.returns
returns c = (search component_size, omega arith)

pub overflow_add-result : goal.overflow_add-result
overflow_add-result c = omega arith
