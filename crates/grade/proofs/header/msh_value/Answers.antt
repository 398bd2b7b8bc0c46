-- `grade::header::msh_value` meets its contract: each part is found in the one before. Assumes nothing.
use mathlib.Core.Path.{sym}
use native.Mathlib.Omega.{arith}
use Rattle.hl7.proofs.Placing.{in_cut}
use Rattle.grade.specs.Header.{msh_at}
use Rattle.grade.proofs.header.msh_value.Goals as goal

pub noted_field-fld-requires : goal.noted_field-fld-requires
noted_field-fld-requires c =
    let p = c.requires in
    (p.0.noted, sym p.0.named, omega (arith, p.0.room))

pub returns : goal.returns
unfolding msh_at
returns c = in_cut c.args.d c.args.msh.now c.args.f 1 c.args.c c.requires.1 c.noted_field-fld.ensures.bytes c.repetition-rep.ensures.bytes c.component.ensures.bytes
