-- `grade::rule::rule_stands` meets its contract: there is a rule where the bytes say one within its limits. Assumes nothing.
use mathlib.Core.Path.{sym, ◌∙◌}
use Rattle.grade.proofs.Parts.{rule-stands, rule_faults}
use Rattle.grade.proofs.rule.rule_stands.Goals as goal

pub returns-in_default : goal.returns-in_default
returns-in_default c =
    let a = c.args in
    rule_faults a.sets a.book.now a.at (sym c.rule_said.ensures ∙ c.in_default.is)

pub returns : goal.returns
returns c =
    let a = c.args in
    rw (c.place_fits.ensures, c.kind_fits.ensures, c.unused_zero.ensures)
    (rule-stands a.sets a.book.now a.at _ (sym c.rule_said.ensures ∙ c.in-Some.is))
