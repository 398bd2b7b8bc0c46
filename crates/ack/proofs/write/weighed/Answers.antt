-- `ack::write::weighed` meets its contract. Assumes nothing.
use mathlib.Core.Path.{refl}
use native.Mathlib.Omega.{arith}
use Rattle.hl7.specs.Place.{delims_of}
use mathlib.Core.List.{[]}
use Rattle.ack.proofs.write.weighed.Goals as goal

pub advanced-requires : goal.advanced-requires
advanced-requires c = omega (arith, c.err_length.ensures.1)

pub returns : goal.returns
returns c = rw (c.in_range.ensures, c.advanced.ensures, c.err_length.ensures.0 (delims_of []), c.is_header.ensures, c.is_fault.ensures) refl
