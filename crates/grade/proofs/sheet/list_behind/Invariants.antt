-- `grade::sheet::list_behind` meets its contract: those on the lines and those still to come are all. Assumes nothing.
use Prim.Native.Nat.{◌<◌}
use mathlib.Core.Path.{◌≡◌}
use mathlib.Core.Bool.{false}
use lib.ListN.{length}
use Rattle.grade.specs.Order.{may_follow, out_of_order}
use Rattle.grade.specs.Rest.{rest}
use Rattle.grade.specs.Sheet.{line_count}
use Rattle.grade.proofs.Sheets.{Listing}
use Rattle.grade.proofs.sheet.list_behind.Given as goal

abbrev pub invariant-loop-finding : goal.invariant-loop-finding
invariant-loop-finding l = Listing l.m l.book l.whole l.s l.starts l.counts l.lines l.cursor l.used l.fault × (l.whole ≡ false → l.used < line_count)

abbrev pub decreases-loop-finding : goal.decreases-loop-finding
decreases-loop-finding l = length (rest (out_of_order may_follow) l.s.by.d l.m l.book l.s.by.section l.counts l.cursor)
