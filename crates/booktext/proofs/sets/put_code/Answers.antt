-- `booktext::sets::put_code` meets its contract. Assumes nothing.
use mathlib.Core.List.{map}
use native.Mathlib.Omega.{arith}
use Rattle.booktext.specs.Standing.{noted}
use Rattle.booktext.proofs.Spelling.{spelt_as, code_taken, code_put}
use Rattle.booktext.proofs.sets.put_code.Goals as goal

pub returns-then-is_lessened : goal.returns-then-is_lessened
returns-then-is_lessened c =
    let entry = c.args in
    spelt_as c.put_none.ensures (code_taken entry.name.now (map (noted entry.t.now) entry.cells.now) entry.code.now c.is_lessened.ensures c.if-is_lessened.true)

pub returns : goal.returns
returns c =
    let entry = c.args in
    code_put entry.name.now (map (noted entry.t.now) entry.cells.now) entry.code.now c.is_lessened.ensures c.if-is_lessened.false c.put_text.ensures (omega arith)
