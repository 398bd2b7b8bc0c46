-- `booktext::compile::make_sections` meets its contract. The invariant of its loop: what is told of all sections is what is told of those among the statements that
-- are left, and whoever puts these has put all. Assumes nothing.
use mathlib.Core.Path.{◌≡◌}
use lib.ListN.{length}
use Rattle.booktext.specs.Standing.{left}
use Rattle.booktext.proofs.Stating.{onward}
use Rattle.booktext.proofs.Compiling.{Making}
use Rattle.booktext.proofs.compile.make_sections.Given as goal

abbrev pub invariant-loop-line : goal.invariant-loop-line
invariant-loop-line l = Making l.t l.initial.out l.at (onward l.t (left l.t) l.line) l.out l.to × (length l.cells ≡ length l.initial.cells)

abbrev pub decreases-loop-line : goal.decreases-loop-line
decreases-loop-line l = length (onward l.t (left l.t) l.line)
