-- `hl7::place::bar_span` meets its contract: the bar, or the end of a bare name. Assumes nothing.
use native.Mathlib.Omega.{arith}
use Rattle.hl7.proofs.Cutting.{spans_as, spans_between}
use Rattle.hl7.proofs.Placing.{msh-long, field_bar, field_no_bar}
use Rattle.hl7.proofs.place.bar_span.Goals as goal

pub returns-then-msh-eq3 : goal.returns-then-msh-eq3
returns-then-msh-eq3 c = spans_as (field_no_bar _ _ c.requires c.if-msh-eq3.true) (spans_between _ 3 3 (omega arith) (omega arith))

pub returns : goal.returns
returns c = spans_as (field_bar _ _ c.requires) (spans_between _ 3 4 (omega arith) (omega (arith, msh-long _ c.requires)))
