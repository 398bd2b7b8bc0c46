-- `ack::errs::put_errs` meets its contract: from sheet to sheet, what is left completes the whole. Assumes nothing.
use mathlib.Core.Path.{◌≡◌}
use Rattle.grade.proofs.Sheets.{ahead}
use Rattle.ack.proofs.Listing.{Putting}
use Rattle.ack.proofs.errs.put_errs.Given as goal

abbrev pub invariant-loop-sheet : goal.invariant-loop-sheet
invariant-loop-sheet l = Putting l.m l.book l.initial.sheet l.initial.out l.sheet l.out × (l.d ≡ l.initial.sheet.by.d)

abbrev pub decreases-loop-sheet : goal.decreases-loop-sheet
decreases-loop-sheet l = ahead l.m l.book l.sheet
