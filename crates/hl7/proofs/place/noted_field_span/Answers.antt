-- `hl7::place::noted_field_span` meets its contract: the part that the field is, as it is noted. Assumes nothing.
use native.Mathlib.Omega.{arith}
use Rattle.hl7.proofs.Placing.{at-missing, at-bar-named, at-part-few}
use Rattle.hl7.proofs.place.noted_field_span.Goals as goal

pub bar_span-requires : goal.bar_span-requires
bar_span-requires c =
    let args = c.args in
    at-bar-named args.d.bar args.seg.now args.f c.field_at.result c.requires.1 c.field_at.ensures c.in-Bar.is

pub noted_part-requires : goal.noted_part-requires
noted_part-requires c =
    let args = c.args in
    (c.requires.0, omega (arith, c.requires.2, at-part-few args.d.bar args.seg.now args.f c.field_at.result c.requires.1 c.field_at.ensures c.in-Part.k c.in-Part.is))

pub returns-in-Missing : goal.returns-in-Missing
returns-in-Missing c = at-missing _ _ _ c.field_at.result c.requires.1 c.field_at.ensures c.in-Missing.is c.missing_span.ensures
