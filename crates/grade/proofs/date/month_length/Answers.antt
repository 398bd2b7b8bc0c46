-- `grade::date::month_length` meets its contract: what it returns is put together from what its callees ensure; a number over 12, whose
-- sum with its eighth might not fit, is no month. Assumes nothing.
use mathlib.Core.Bool.{true, false}
use mathlib.Core.Path.{◌≡◌}
use native.Mathlib.Omega.{arith}
use lib.Dec.{leb}
use borrow.Author.Tests.{leb-true}
use Rattle.hl7.specs.Bytes.{within}
use Rattle.hl7.proofs.Comparing.{and_both}
use Rattle.grade.specs.Calendar.{month_length}
use Rattle.grade.proofs.date.month_length.Goals as goal

pub returns-then-not-month : goal.returns-then-not-month
unfolding month_length
returns-then-not-month c =
    let none : within 1 12 c.args.month ≡ false = c.if-not-month.true in
    rw none

pub overflow_add-month : goal.overflow_add-month
overflow_add-month c =
    let month = c.args.month in
    let is : within 1 12 month ≡ true = c.if-not-month.false in
    omega (arith, leb-true month 12 (and_both (leb 1 month) _ is).1)

pub returns : goal.returns
unfolding month_length
returns c =
    let is : within 1 12 c.args.month ≡ true = c.if-not-month.false in
    rw (is, c.pick.ensures, c.pick-february.ensures, c.is_leap.ensures)
