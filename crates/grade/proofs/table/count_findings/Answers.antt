-- `grade::table::count_findings` meets its contract: those on the first sheet, and those behind it. Assumes nothing.
use mathlib.Core.Path.{ap}
use native.Mathlib.Omega.{arith}
use lib.ListN.{length, length-append}
use Rattle.grade.specs.Sheet.{held, to_come}
use Rattle.grade.proofs.Sheets.{held-length, none-to_come, all-counted}
use Rattle.grade.proofs.table.count_findings.Goals as goal

pub returns-then-first : goal.returns-then-first
returns-then-first c =
    let a = c.args in
    let first = a.first in
    omega (arith, held-length first c.requires.0, length-append (held first) (to_come a.m.now a.book.now first), ap length (none-to_come a.m.now a.book.now first c.if-first.true))

pub list_behind-requires : goal.list_behind-requires
list_behind-requires c =
    let a = c.args in
    (c.requires.0.ready, c.if-first.false, λ _. omega (arith, c.requires.2, length-append (held a.first) (to_come a.m.now a.book.now a.first)))

pub overflow_add-result : goal.overflow_add-result
overflow_add-result c =
    let a = c.args in
    let first = a.first in
    record {
      fits = omega (
        arith,
        c.requires.2,
        held-length first c.requires.0,
        length-append (held first) (to_come a.m.now a.book.now first),
        all-counted a.m.now a.book.now c.requires.1 c.list_behind.ensures,
      );
    }

pub returns : goal.returns
returns c =
    let a = c.args in
    let first = a.first in
    omega (
      arith,
      held-length first c.requires.0,
      length-append (held first) (to_come a.m.now a.book.now first),
      all-counted a.m.now a.book.now c.requires.1 c.list_behind.ensures,
    )
