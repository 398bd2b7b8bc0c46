-- `lent::grade_and_write` meets its contract: grading into a table of its own, and then writing from it. Assumes nothing.
use native.Mathlib.Omega.{arith}
use lib.ListN.{length-replicate}
use Rattle.std.proofs.lemmas.Result.{err_from_is_err_and}
use Rattle.ack.specs.Records.{blank, own_table}
use Rattle.ack.proofs.Lending.{lent_refused, lent_written, lent_few}
use Rattle.ack.proofs.lent.grade_and_write.Goals as goal

pub returns-in_err-found : goal.returns-in_err-found
returns-in_err-found c =
    let a = c.args in
    let p = err_from_is_err_and c.from_residual.result c.from_residual.ensures.1 in
    let graded = c.in_err-found.ensures in
    rw (p.1, p.2) (lent_refused a.m.now a.book.now a.stamp.now a.control a.out.now own_table _ graded.0)

pub overflow_cast-found : goal.overflow_cast-found
overflow_cast-found c =
    let a = c.args in
    let graded = c.in_ok-found.ensures in
    record { fits = omega (arith, lent_few a.m.now a.book.now a.stamp.now 0 a.stamp.now own_table graded.0, length-replicate 8192 blank) }

pub returns : goal.returns
returns c =
    let a = c.args in
    let graded = c.in_ok-found.ensures in
    lent_written a.m.now a.book.now a.stamp.now a.control a.out.now own_table _ graded.0 graded.1 c.write.ensures
