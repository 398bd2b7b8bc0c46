-- `grade::sheet::first_sheet` meets its contract: everything is still to come behind a sheet with nothing on it. Assumes nothing.
use mathlib.Core.Path.{refl, sym}
use mathlib.Core.Bool.{true≢false}
use lib.ListN.{replicate, length-replicate}
use Rattle.grade.specs.Sheet.{line_count}
use Rattle.grade.specs.declared.finding.Finding.{Finding}
use Rattle.grade.proofs.Sheets.{unwritten-ready, gets_listed, gets_first}
use Rattle.grade.proofs.sheet.first_sheet.Goals as goal

-- what a line with nothing on it holds
abbrev blank : Finding
blank = record { ordinal = 0; repetition = 0; rule = 0; code = 0; name = 0; field = 0; component = 0; severity = 0 }

pub list_behind-requires : goal.list_behind-requires
list_behind-requires c =
    let a = c.args in
    let p = c.requires in (
      unwritten-ready a.m.now a.book.now a.by a.brief _ _ (replicate line_count blank) p.1 c.start.ensures (length-replicate line_count blank)
          (record { short = p.0; holds = p.1; placed = c.sets_of.ensures; linked = c.links_of.ensures }),
      refl,
      λ e. absurd (true≢false (sym e)),
    )

pub returns : goal.returns
returns c =
    let a = c.args in
    gets_first a.m.now a.book.now a.by a.brief _ _ (replicate line_count blank) c.requires.1 c.start.ensures c.requires.2 (gets_listed c.list_behind.ensures)
