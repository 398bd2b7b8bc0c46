-- `hl7::place::in_segment` meets its contract: a part of a field, cut unless it is MSH-1 or MSH-2. Assumes nothing.
use Rattle.hl7.specs.Place.{in_segment, in_field, never_cut}
use Rattle.hl7.proofs.Cutting.{spans_inside}
use Rattle.hl7.proofs.place.in_segment.Goals as goal

pub returns : goal.returns
unfolding in_segment
returns c =
    let a = c.args in
    spans_inside (λ fld. in_field a.d (never_cut a.seg.now a.f) fld a.r a.c) c.field_span-fld.ensures (rw c.never_cut-whole.ensures at c.in_field.ensures) c.of_part.ensures
