-- `grade::admit::has_control_id` meets its contract: how long MSH-10 is. Assumes nothing.
use mathlib.Core.Path.{sym, ap}
use native.Mathlib.Omega.{arith}
use lib.ListN.{length}
use Rattle.hl7.specs.Bytes.{within}
use Rattle.grade.proofs.admit.has_control_id.Goals as goal

pub noted_field-n-requires : goal.noted_field-n-requires
noted_field-n-requires c =
    let p = c.requires in
    (p.noted, sym p.named, omega (arith, p.room))

pub returns : goal.returns
returns c = ap (λ v. within 1 199 (length v)) c.noted_field-n.ensures.bytes
