-- `grade::header::has_processing_id` meets its contract: what stands at MSH-11.1. Assumes nothing.
use mathlib.Core.Path.{ap, ◌∙◌}
use Rattle.grade.specs.Header.{is_processing_id}
use Rattle.grade.proofs.header.has_processing_id.Goals as goal

pub returns : goal.returns
returns c = c.is_processing_id.ensures ∙ ap is_processing_id c.msh_value.ensures
