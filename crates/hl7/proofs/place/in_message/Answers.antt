-- `hl7::place::in_message` meets its contract: a part of a segment. Assumes nothing.
use Rattle.hl7.specs.Place.{place, in_segment}
use Rattle.hl7.proofs.Cutting.{spans_inside}
use Rattle.hl7.proofs.place.in_message.Goals as goal

pub returns : goal.returns
unfolding place
returns c =
    let a = c.args in
    spans_inside (λ seg. in_segment a.d seg a.f a.r a.c) c.segment_span-seg.ensures c.in_segment.ensures c.of_part.ensures
