-- `hl7::place::field_span` meets its contract: the part that the field is. Assumes nothing.
use Rattle.hl7.proofs.Placing.{at-missing, at-bar-named, at-bar}
use Rattle.hl7.proofs.place.field_span.Goals as goal

pub bar_span-requires : goal.bar_span-requires
bar_span-requires c =
    let args = c.args in
    at-bar-named args.d.bar args.seg.now args.f c.field_at.result c.is_msh.ensures c.field_at.ensures c.in-Bar.is

pub returns-in-Missing : goal.returns-in-Missing
returns-in-Missing c = at-missing _ _ _ c.field_at.result c.is_msh.ensures c.field_at.ensures c.in-Missing.is c.missing_span.ensures

pub returns-in-Bar : goal.returns-in-Bar
returns-in-Bar c = at-bar _ _ _ c.field_at.result c.is_msh.ensures c.field_at.ensures c.in-Bar.is c.bar_span.ensures
