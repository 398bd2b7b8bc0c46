-- `grade::range::in_range` meets its contract. Assumes nothing.
use mathlib.Core.Path.{refl}
use borrow.Author.Tests.{ne_eqb}
use Rattle.grade.specs.Range.{in_range}
use Rattle.grade.proofs.range.in_range.Goals as goal

pub returns-then-finding-eq100 : goal.returns-then-finding-eq100
unfolding in_range
returns-then-finding-eq100 c = rw (c.order_in_range.ensures, c.if-finding-eq100.true) refl

pub returns : goal.returns
unfolding in_range
returns c = rw (c.is_code.ensures, c.value_in_range.ensures, ne_eqb _ 100 c.if-finding-eq100.false) refl
