-- `hl7::place::component_span` meets its contract: each `return` is a case of `component_of`. Assumes nothing.
use native.Mathlib.Omega.{arith}
use Rattle.hl7.proofs.Cutting.{spans_as, spans_whole}
use Rattle.hl7.proofs.Placing.{component-zero, component-some}
use Rattle.hl7.proofs.place.component_span.Goals as goal

pub returns-then-c-eq0 : goal.returns-then-c-eq0
returns-then-c-eq0 c = spans_as (component-zero _ _ _ (omega arith)) (spans_whole _)

pub returns : goal.returns
returns c = spans_as (component-some _ _ _ (omega arith)) c.nth.ensures
