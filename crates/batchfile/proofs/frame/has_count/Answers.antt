-- `batchfile::frame::has_count` meets its contract. Assumes nothing.
use native.Mathlib.Omega.{arith}
use Rattle.batchfile.proofs.Framing.{counted_in}
use Rattle.batchfile.proofs.frame.has_count.Goals as goal

pub slice_bounds-is_count-start : goal.slice_bounds-is_count-start
slice_bounds-is_count-start c = omega (arith, c.field_span-first.ensures.forward)

pub slice_bounds-is_count-end : goal.slice_bounds-is_count-end
slice_bounds-is_count-end c = omega (arith, c.field_span-first.ensures.inside)

pub is_count-requires : goal.is_count-requires
is_count-requires c = c.requires

pub returns : goal.returns
returns c = counted_in c.args.d _ _ c.segment-seg.ensures.bytes c.field_span-first.ensures c.is_count.ensures
