-- `hl7::place::in_field` meets its contract: a component of a repetition. Assumes nothing.
use Rattle.hl7.specs.Place.{in_field, component_of}
use Rattle.hl7.proofs.Cutting.{spans_inside}
use Rattle.hl7.proofs.place.in_field.Goals as goal

pub returns : goal.returns
unfolding in_field
returns c =
    let a = c.args in
    spans_inside (λ rep. component_of a.d a.whole rep a.c) c.repetition_span-rep.ensures c.component_span.ensures c.of_part.ensures
