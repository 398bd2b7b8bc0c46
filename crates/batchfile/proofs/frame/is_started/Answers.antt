-- `batchfile::frame::is_started` meets its contract. Assumes nothing.
use Rattle.batchfile.proofs.Gathering.{started-is}
use Rattle.batchfile.proofs.frame.is_started.Goals as goal

pub slice_bounds-line-end : goal.slice_bounds-line-end
slice_bounds-line-end c = c.line_end-end.ensures.onward.within c.requires

pub returns : goal.returns
returns c = started-is _ _ _ c.requires c.line_end-end.ensures c.is_frame.ensures c.is_msh.ensures
