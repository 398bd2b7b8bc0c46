-- `legend::legend::put_sections` meets its contract. The invariant of its loop: whoever lists the sections among the statements left has listed all. Assumes nothing.
use mathlib.Core.Path.{◌≡◌}
use lib.ListN.{length}
use Rattle.booktext.specs.Standing.{left}
use Rattle.booktext.proofs.Stating.{onward}
use Rattle.legend.proofs.Listing.{Sections}
use Rattle.legend.proofs.legend.put_sections.Given as goal

abbrev pub invariant-loop-line : goal.invariant-loop-line
invariant-loop-line l = Sections l.t l.initial.out (onward l.t (left l.t) l.line) l.out × (length l.cells ≡ length l.initial.cells)

abbrev pub decreases-loop-line : goal.decreases-loop-line
decreases-loop-line l = length (onward l.t (left l.t) l.line)
