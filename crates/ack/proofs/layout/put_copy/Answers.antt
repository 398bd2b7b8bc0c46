-- `ack::layout::put_copy` meets its contract. Assumes nothing.
use mathlib.Core.Path.{sym}
use native.Mathlib.Omega.{arith}
use Rattle.ack.specs.Layout.{copied}
use Rattle.ack.proofs.Adding.{adds_as}
use Rattle.ack.proofs.layout.put_copy.Goals as goal

pub noted_field-requires : goal.noted_field-requires
noted_field-requires c =
    let p = c.requires in
    (p.0.noted, sym p.0.named, omega (arith, p.0.room))

pub returns : goal.returns
unfolding copied
returns c = adds_as c.put_field.ensures (rw c.noted_field.ensures.bytes)
