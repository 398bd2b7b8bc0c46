-- `grade::within::field_of` meets its contract. Assumes nothing.
use native.Mathlib.Omega.{arith}
use Rattle.grade.proofs.within.field_of.Goals as goal

pub returns-then-spot-gt0 : goal.returns-then-spot-gt0
returns-then-spot-gt0 c = c.requires.3.known (omega (arith, c.if-spot-gt0.true))

pub open_field-requires : goal.open_field-requires
open_field-requires c =
    let a = c.args in
    let p = c.requires in
    (p.0, p.1, p.2, p.3.parted p.5, p.4, p.5, p.3.about p.5, p.6)
