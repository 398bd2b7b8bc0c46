-- `grade::step::next` meets its contract: the header's findings first. Assumes nothing.
use mathlib.Core.Path.{sym, ◌∙◌}
use Rattle.grade.specs.Order.{table_says}
use Rattle.grade.proofs.Segments.{header-next, header-over}
use Rattle.grade.proofs.step.next.Goals as goal

pub first_wrong-requires : goal.first_wrong-requires
first_wrong-requires c = sym c.any_wrong.ensures ∙ c.if-any_wrong.true

pub returns-then-any_wrong : goal.returns-then-any_wrong
returns-then-any_wrong c =
    let a = c.args in
    header-next (table_says a.table.now) a.by.d a.m.now a.book.now a.by.section c.requires.1 c.first_wrong.ensures c.later_wrong-left.ensures c.moved.ensures

pub returns : goal.returns
returns c =
    let a = c.args in
    header-over (table_says a.table.now) a.by.d a.m.now a.book.now a.by.section _ _ a.counts.now a.cursor (sym c.any_wrong.ensures ∙ c.if-any_wrong.false) c.next_graded.result c.next_graded.ensures
