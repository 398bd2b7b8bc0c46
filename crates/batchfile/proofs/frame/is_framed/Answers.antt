-- `batchfile::frame::is_framed` meets its contract: it asks what the definition asks, each of the part where it stands. Assumes nothing.
use native.Mathlib.Omega.{arith}
use Rattle.batchfile.proofs.Framing.{asked_framed}
use Rattle.batchfile.proofs.frame.is_framed.Goals as goal

pub slice_bounds-keeps_rows-end : goal.slice_bounds-keeps_rows-end
slice_bounds-keeps_rows-end c =
    let stands = c.requires.1.forward in omega (arith, stands.0, stands.1, stands.2, stands.3, stands.4)

pub slice_bounds-is_segment-start : goal.slice_bounds-is_segment-start
slice_bounds-is_segment-start c = omega (arith, c.requires.1.forward.0)

pub slice_bounds-is_segment-end-2 : goal.slice_bounds-is_segment-end-2
slice_bounds-is_segment-end-2 c =
    let stands = c.requires.1.forward in omega (arith, stands.1, stands.2, stands.3, stands.4)

pub is_started-requires : goal.is_started-requires
is_started-requires c =
    let stands = c.requires.1.forward in omega (arith, stands.1, stands.2, stands.3, stands.4)

pub slice_bounds-is_segment-start-2 : goal.slice_bounds-is_segment-start-2
slice_bounds-is_segment-start-2 c = omega (arith, c.requires.1.forward.2)

pub slice_bounds-is_segment-end-4 : goal.slice_bounds-is_segment-end-4
slice_bounds-is_segment-end-4 c =
    let stands = c.requires.1.forward in omega (arith, stands.3, stands.4)

pub slice_bounds-is_segment-start-3 : goal.slice_bounds-is_segment-start-3
slice_bounds-is_segment-start-3 c = omega (arith, c.requires.1.forward.3)

pub slice_bounds-is_segment-end-6 : goal.slice_bounds-is_segment-end-6
slice_bounds-is_segment-end-6 c = omega (arith, c.requires.1.forward.4)

pub returns : goal.returns
returns c =
    asked_framed _ _ c.requires.1 c.requires.0 c.opens_with.ensures c.keeps_rows.ensures c.is_segment.ensures c.is_started.ensures
    c.is_segment-2.ensures c.is_segment-3.ensures
