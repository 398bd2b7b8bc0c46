-- `booktext::any_text::amended_at` meets what it calls asks. Assumes nothing.
use mathlib.Core.Path.{sym, ap, ◌∙◌}
use mathlib.Core.Bool.{not}
use Rattle.booktext.specs.Lines.{of_rule}
use Rattle.booktext.proofs.Marking.{mark_at, part_marks}
use borrow.Author.Tests.{not-false}
use Rattle.booktext.proofs.any_text.amended_at.Goals as goal

pub amended_any-requires : goal.amended_any-requires
amended_any-requires c =
    let a = c.args in
    let mark = mark_at a.t.now a.cells.now a.i c.requires.0 c.requires.1 in
    (sym (ap of_rule mark.by_verb) ∙ sym c.is_rule.ensures ∙ not-false _ (ap not c.if-not-is_rule.false), part_marks a.t.now a.cells.now a.i c.requires.0)
