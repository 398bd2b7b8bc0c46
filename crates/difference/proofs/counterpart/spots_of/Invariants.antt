-- `difference::counterpart::spots_of` meets its contract. The invariant of its loop: those noted so far are the first ones. Assumes nothing.
use mathlib.Core.Path.{◌≡◌}
use lib.ListN.{length, take}
use Rattle.grade.specs.Limits.{rule_limit}
use Rattle.grade.specs.Standing.{rules_in}
use Rattle.difference.specs.Difference.{spots}
use Rattle.difference.proofs.counterpart.spots_of.Given as goal

abbrev pub invariant-loop-i : goal.invariant-loop-i
invariant-loop-i l = (length l.noted ≡ rule_limit) × (take l.i l.noted ≡ take l.i (spots (rules_in l.book l.section)))
