-- `batchfile::frame::is_counted` meets its contract. Assumes nothing.
use native.Mathlib.Omega.{arith}
use Rattle.batchfile.proofs.Framing.{asked_counted}
use Rattle.batchfile.proofs.frame.is_counted.Goals as goal

pub slice_bounds-has_count-start : goal.slice_bounds-has_count-start
slice_bounds-has_count-start c = omega (arith, c.requires.1.forward.2)

pub slice_bounds-has_count-end : goal.slice_bounds-has_count-end
slice_bounds-has_count-end c =
    let stands = c.requires.1.forward in omega (arith, stands.3, stands.4)

pub has_count-requires : goal.has_count-requires
has_count-requires c = c.requires.2

pub slice_bounds-has_count-start-2 : goal.slice_bounds-has_count-start-2
slice_bounds-has_count-start-2 c = omega (arith, c.requires.1.forward.3)

pub slice_bounds-has_count-end-2 : goal.slice_bounds-has_count-end-2
slice_bounds-has_count-end-2 c = omega (arith, c.requires.1.forward.4)

pub returns : goal.returns
returns c = asked_counted _ _ c.requires.1 c.requires.0 c.has_count.ensures c.has_count-2.ensures

pub has_count-requires-2 : goal.has_count-requires-2
has_count-requires-2 c = omega arith
