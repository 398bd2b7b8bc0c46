-- `booktext::section::used_twice` meets its contract. The invariant of its loop: the statements passed use no common again. Assumes nothing.
use mathlib.Core.Path.{◌≡◌}
use lib.ListN.{length}
use Rattle.booktext.specs.Lines.{line_of}
use Rattle.booktext.specs.Refusals.{used_twice}
use Rattle.booktext.specs.Standing.{left, body_from}
use Rattle.booktext.proofs.Stating.{onward}
use Rattle.booktext.proofs.section.used_twice.Given as goal

abbrev pub invariant-loop-at : goal.invariant-loop-at
invariant-loop-at l = used_twice l.t (line_of l.t l.head) (left l.t l.start) (body_from l.t l.start) ≡ used_twice l.t (line_of l.t l.head) (left l.t l.start) (onward l.t (body_from l.t) l.at)

abbrev pub decreases-loop-at : goal.decreases-loop-at
decreases-loop-at l = length (onward l.t (body_from l.t) l.at)
