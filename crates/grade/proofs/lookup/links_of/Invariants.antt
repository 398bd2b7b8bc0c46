-- `grade::lookup::links_of` meets its contract: the rules from i on are linked. Assumes nothing.
use mathlib.Core.Path.{◌≡◌}
use lib.ListN.{length}
use Rattle.grade.specs.Limits.{link_limit}
use Rattle.grade.specs.Standing.{rules_in, Holds}
use Rattle.grade.proofs.Linking.{LinkedFrom}
use Rattle.grade.proofs.lookup.links_of.Given as goal

abbrev pub invariant-loop-i : goal.invariant-loop-i
invariant-loop-i l = Holds l.book l.section × (length l.links ≡ link_limit) × LinkedFrom (rules_in l.book l.section) l.i l.links
