-- `booktext::sets::put_sets` meets its contract, by the invariant that stands beside this. Assumes nothing.
use mathlib.Core.Path.{refl}
use mathlib.Core.List.{map}
use borrow.Author.Rules.{rules}
use Rattle.booktext.specs.Standing.{names_in, noted}
use Rattle.booktext.proofs.Telling.{row-some, handed-as}
use Rattle.booktext.proofs.Setting.{sets-start, sets-refused, sets_again, sets_over, names_from, names_more, names-over}
use Rattle.booktext.proofs.sets.put_sets.Goals as goal

pub loop-i-init : goal.loop-i-init
loop-i-init c =
    let entry = c.args in sets-start entry.t.now entry.head (map (noted entry.t.now) entry.cells.now) entry.names.now entry.out.now entry.at

pub returns-in_err-to : goal.returns-in_err-to
returns-in_err-to c =
    let t = c.args.t.now in
    let names = c.args.names.now in
    let i = c.loop-i.i in
    rw (handed-as c.in_err-to.field-0.0 c.from_residual.result c.from_residual.ensures.1)
    (sets-refused t c.args.head (map (noted t) c.args.cells.now) (names_in t names) (names_from t names i) c.loop-i.invariant
    (names_more t names i c.loop-i-test.true (search rules) c.name_at-name.ensures)
    c.in_err-to.ensures
    (row-some c.in_err-to.field-0.0.row))

pub loop-i-preserved : goal.loop-i-preserved
loop-i-preserved c =
    let t = c.args.t.now in
    let names = c.args.names.now in
    let i = c.loop-i.i in
    sets_again t c.args.head (map (noted t) c.args.cells.now) (names_in t names) (names_from t names i) c.loop-i.invariant
    (names_more t names i c.loop-i-test.true (search rules) c.name_at-name.ensures)
    c.in_ok-to.ensures
    refl

pub returns : goal.returns
returns c =
    let entry = c.args in
    let t = entry.t.now in
    let i = c.loop-i.i in
    sets_over t entry.head (map (noted t) entry.cells.now) (names_in t entry.names.now) (names_from t entry.names.now i) c.loop-i.invariant
    (names-over t entry.names.now i c.loop-i-test.false)
    c.put.ensures
