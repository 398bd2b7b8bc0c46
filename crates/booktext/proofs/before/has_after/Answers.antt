-- `booktext::before::has_after` meets its contract: of statements that change codes, one that names set and code decides. Assumes nothing.
use mathlib.Core.Path.{ap}
use mathlib.Core.Bool.{not}
use Rattle.booktext.proofs.Preceding.{after_other, after-named, after-not}
use Rattle.booktext.proofs.before.has_after.Goals as goal

pub returns-then-not-is_codes : goal.returns-then-not-is_codes
returns-then-not-is_codes c =
    let a = c.args in
    after_other a.t.now a.name.now a.code.now a.so a.cell c.requires c.is_codes.ensures (ap not c.if-not-is_codes.true)

pub returns-then-names_code : goal.returns-then-names_code
returns-then-names_code c =
    let a = c.args in
    after-named a.t.now a.name.now a.code.now a.so a.cell c.requires c.is_codes.ensures (ap not c.if-not-is_codes.false) c.names_code.ensures c.if-names_code.true

pub returns : goal.returns
returns c =
    let a = c.args in
    after-not a.t.now a.name.now a.code.now a.so a.cell c.requires c.is_codes.ensures (ap not c.if-not-is_codes.false) c.names_code.ensures c.if-names_code.false
