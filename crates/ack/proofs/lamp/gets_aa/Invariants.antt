-- `ack::lamp::gets_aa` meets its contract: by the header, or else by whether an E or W is among the findings. Assumes nothing.
use mathlib.Core.Path.{◌≡◌}
use mathlib.Core.Bool.{◌||◌}
use Rattle.grade.specs.Deciding.{has, is_fault}
use Rattle.grade.specs.Sheet.{to_come, Sheeted}
use Rattle.grade.proofs.Sheets.{ahead}
use Rattle.ack.proofs.lamp.gets_aa.Given as goal

abbrev pub invariant-loop-sheet : goal.invariant-loop-sheet
invariant-loop-sheet l = Sheeted l.m l.book l.sheet × ((l.sheet.fault || has is_fault (to_come l.m l.book l.sheet)) ≡ (l.initial.sheet.fault || has is_fault (to_come l.m l.book l.initial.sheet)))

abbrev pub decreases-loop-sheet : goal.decreases-loop-sheet
decreases-loop-sheet l = ahead l.m l.book l.sheet
