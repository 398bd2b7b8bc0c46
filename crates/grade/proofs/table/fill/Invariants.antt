-- `table::fill` meets its contract: what is left to store, stored from record `at` on, gives the answer. Assumes nothing.
use Rattle.std.proofs.Common.{◌-◌, List}
use Rattle.grade.specs.declared.finding.Finding.{Finding}
use Rattle.grade.proofs.Filling.{Stage}
use Rattle.grade.proofs.table.fill.Given as goal

abbrev pub invariant-loop-at : goal.invariant-loop-at
invariant-loop-at l = (left : List Finding) × Stage l.m l.book l.fn.first l.count l.initial.table left l.at l.sheet l.table

abbrev pub decreases-loop-at : goal.decreases-loop-at
decreases-loop-at l = l.count - l.at
