-- `grade::order::out_of_order` meets its contract: each way out is a case of the test. Assumes nothing.
use native.Mathlib.Omega.{arith}
use borrow.Author.Tests.{le-leb, lt-leb}
use Rattle.grade.proofs.Naming.{is_counted_lem, not-counted}
use Rattle.grade.proofs.order.out_of_order.Goals as goal

pub returns-then-before-eq0 : goal.returns-then-before-eq0
returns-then-before-eq0 c = rw c.if-before-eq0.true

pub returns-then-before-gt10 : goal.returns-then-before-gt10
returns-then-before-gt10 c = rw (not-counted _ c.if-before-gt10.true)

pub returns-then-name-gt10 : goal.returns-then-name-gt10
returns-then-name-gt10 c = rw (is_counted_lem _ (omega (arith, c.if-before-eq0.false)) c.if-before-gt10.false, lt-leb _ _ c.if-name-gt10.true)

pub returns : goal.returns
returns c = rw (is_counted_lem _ (omega (arith, c.if-before-eq0.false)) c.if-before-gt10.false, le-leb _ _ c.if-name-gt10.false)
