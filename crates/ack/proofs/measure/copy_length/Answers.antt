-- `ack::measure::copy_length` meets its contract. Assumes nothing.
use mathlib.Core.Path.{sym, ap}
use native.Mathlib.Omega.{arith}
use lib.ListN.{length}
use Rattle.ack.specs.Layout.{copied}
use Rattle.ack.proofs.Sizes.{copied-short}
use Rattle.ack.proofs.measure.copy_length.Goals as goal

pub noted_field-requires : goal.noted_field-requires
noted_field-requires c =
    let p = c.requires in
    (p.0.noted, sym p.0.named, omega (arith, p.0.room))

pub returns : goal.returns
unfolding copied
returns c =
    let a = c.args in
    let is-length = ap length c.noted_field.ensures.bytes in
    (is-length, omega (arith, is-length, copied-short a.d a.msh.now a.k, c.requires.1))
