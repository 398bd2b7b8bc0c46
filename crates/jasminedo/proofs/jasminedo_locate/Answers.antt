-- `jasminedo::jasminedo_locate` meets its contract: the place that `locate_span` gives, packed. Assumes nothing.
use Rattle.jasminedo.proofs.Packing.{place-packed, place-small}
use Rattle.jasminedo.proofs.jasminedo_locate.Goals as goal

pub pack_span-requires : goal.pack_span-requires
pack_span-requires c = (c.locate_span.ensures.forward, place-small _ _ _ _ _ c.locate_span.ensures)

pub returns : goal.returns
returns c = place-packed c.locate_span.ensures c.pack_span.ensures
