-- `grade::header::msh_is` meets its contract: what stands at a place of MSH. Assumes nothing.
use Rattle.grade.proofs.header.msh_is.Goals as goal

pub returns : goal.returns
returns c = rw (← c.msh_value.ensures) c.same_bytes.ensures
