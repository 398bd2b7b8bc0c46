-- `ack::measure::heading_length` meets its contract. Assumes nothing.
use native.Mathlib.Omega.{arith}
use Rattle.ack.proofs.Sizes.{heading-whole}
use Rattle.ack.proofs.measure.heading_length.Goals as goal

pub returns : goal.returns
returns c =
    λ second.
    let a = c.args in
    omega (
      arith,
      heading-whole a.d a.msh.now a.stamp.now a.control second,
      c.decimal_length.ensures.0,
      c.copy_length.ensures.0,
      c.copy_length-2.ensures.0,
      c.copy_length-3.ensures.0,
      c.copy_length-4.ensures.0,
      c.copy_length-5.ensures.0,
      c.copy_length-6.ensures.0,
    )
