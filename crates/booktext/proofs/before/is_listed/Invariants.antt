-- `booktext::before::is_listed` meets its contract. The invariant of its loop: the code lines have the code if those that are left have it. Assumes nothing.
use mathlib.Core.Path.{◌≡◌}
use lib.ListN.{length}
use Rattle.hl7.specs.Bytes.{among}
use Rattle.booktext.specs.Contents.{listed}
use Rattle.booktext.specs.Standing.{body_from}
use Rattle.booktext.proofs.Stating.{onward}
use Rattle.booktext.proofs.before.is_listed.Given as goal

abbrev pub invariant-loop-at : goal.invariant-loop-at
invariant-loop-at l = among l.code (listed (body_from l.t l.start)) ≡ among l.code (listed (onward l.t (body_from l.t) l.at))

abbrev pub decreases-loop-at : goal.decreases-loop-at
decreases-loop-at l = length (onward l.t (body_from l.t) l.at)
