-- `line::input::read_line` meets its contract: what is kept is kept of some input. Assumes nothing.
use Rattle.line.specs.Fed.{Kept}
use Rattle.line.proofs.input.read_line.Given as goal

abbrev pub invariant-loop : goal.invariant-loop
invariant-loop g l = Kept l.state
