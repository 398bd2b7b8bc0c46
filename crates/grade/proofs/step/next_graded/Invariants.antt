-- `grade::step::next_graded` meets its contract: the present segment first, then the segments after it. Assumes nothing.
use Prim.Native.Nat.{◌-◌}
use mathlib.Core.Path.{◌≡◌}
use lib.ListN.{length}
use Rattle.grade.specs.Order.{out_of_order, table_says}
use Rattle.grade.specs.Rest.{grade_rest, Stands}
use Rattle.grade.proofs.step.next_graded.Given as goal

abbrev pub invariant-loop-finding : goal.invariant-loop-finding
invariant-loop-finding l = (length l.starts ≡ length l.initial.starts) × Stands l.by.d l.m l.book l.by.section l.starts l.counts l.c
    × (grade_rest (out_of_order (table_says l.table)) l.by.d l.m l.book l.by.section l.initial.counts l.initial.c ≡ grade_rest (out_of_order (table_says l.table)) l.by.d l.m l.book l.by.section l.counts l.c)

abbrev pub decreases-loop-finding : goal.decreases-loop-finding
decreases-loop-finding l = length l.m - l.c.next
