-- `table::grade` meets its contract: the first refusal that applies, or all findings where there is room for them. Assumes nothing.
use mathlib.Core.Path.{refl, ap}
use native.Mathlib.Omega.{arith}
use lib.ListN.{length}
use Rattle.std.proofs.lemmas.Result.{err_from_is_err_and}
use Rattle.grade.proofs.Admitting.{admitted_by, admitted_short, admitted_holds}
use Rattle.grade.proofs.Planning.{admitted_few, graded_refused, graded_short, graded_room}
use Rattle.grade.proofs.table.grade.Goals as goal

pub returns-in_err-terms : goal.returns-in_err-terms
returns-in_err-terms c =
    let p = err_from_is_err_and c.from_residual.result c.from_residual.ensures.1 in
    rw (p.1, p.2) (graded_refused _ _ _ c.in_err-terms.ensures)

pub first_sheet-first-requires : goal.first_sheet-first-requires
first_sheet-first-requires c =
    let is = c.in_ok-terms.ensures in
    (admitted_short _ _ is, admitted_holds _ _ is, (admitted_by _ _ is).own)

pub count_findings-found-requires : goal.count_findings-found-requires
count_findings-found-requires c =
    let w = c.first_sheet-first.ensures in
    (w.sheeted, w.briefly, omega (arith, ap length (w.all refl), admitted_few _ _ c.in_ok-terms.ensures))

pub returns-then-room-found : goal.returns-then-room-found
returns-then-room-found c = graded_short _ _ _ c.in_ok-terms.ensures c.first_sheet-first.ensures c.count_findings-found.ensures c.if-room-found.true

pub fill-requires : goal.fill-requires
fill-requires c =
    let w = c.first_sheet-first.ensures in
    (omega arith, λ _. record { sheeted = w.sheeted; whole = w.briefly; exact = c.count_findings-found.ensures })

pub returns : goal.returns
returns c = graded_room _ _ _ c.in_ok-terms.ensures c.first_sheet-first.ensures c.count_findings-found.ensures (omega arith) c.fill.ensures
