-- `batchfile::frame::is_segment` meets its contract. Assumes nothing.
use mathlib.Core.Path.{ap₂}
use mathlib.Core.Bool.{◌&&◌}
use Rattle.batchfile.proofs.frame.is_segment.Goals as goal

pub returns : goal.returns
returns c = ap₂ ◌&&◌ c.begins_with.ensures c.keeps_rows.ensures
