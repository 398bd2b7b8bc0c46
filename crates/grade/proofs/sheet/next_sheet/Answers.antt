-- `grade::sheet::next_sheet` meets its contract. Assumes nothing.
use mathlib.Core.Bool.{true≢false}
use mathlib.Core.Path.{sym}
use Rattle.grade.proofs.Sheets.{gets_none, gets_listed}
use Rattle.grade.proofs.sheet.next_sheet.Goals as goal

pub returns-then-s : goal.returns-then-s
returns-then-s c = gets_none c.args.m.now c.args.book.now c.args.s c.requires c.if-s.true

pub list_behind-requires : goal.list_behind-requires
list_behind-requires c = (c.requires, c.if-s.false, λ e. absurd (true≢false (sym e)))

pub returns : goal.returns
returns c = gets_listed c.list_behind.ensures
