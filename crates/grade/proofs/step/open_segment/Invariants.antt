-- `grade::step::open_segment` meets its contract: the segments passed over do not count. Assumes nothing.
use Prim.Native.Nat.{◌-◌, ◌≤◌}
use mathlib.Core.Path.{◌≡◌}
use lib.ListN.{length}
use Rattle.grade.specs.Order.{out_of_order, table_says}
use Rattle.grade.specs.Rest.{CountsStand, grade_from}
use Rattle.grade.proofs.step.open_segment.Given as goal

abbrev pub invariant-loop-by : goal.invariant-loop-by
invariant-loop-by l = (length l.starts ≡ length l.initial.starts) × (l.counts ≡ l.initial.counts) × CountsStand l.m l.at l.counts × (l.end ≡ length l.m) × (l.from ≤ l.at)
    × (grade_from (out_of_order (table_says l.table)) l.by.d l.m l.book l.by.section l.from l.last l.initial.counts ≡ grade_from (out_of_order (table_says l.table)) l.by.d l.m l.book l.by.section l.at l.last l.counts)

abbrev pub decreases-loop-by : goal.decreases-loop-by
decreases-loop-by l = l.end - l.at
