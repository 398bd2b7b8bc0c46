-- `booktext::rules::count_rules` meets its contract. Assumes nothing.
use mathlib.Core.Path.{◌≡◌, ◌∙◌}
use borrow.Author.Rules.{rules}
use Rattle.std.specs.List.{count_by}
use Rattle.booktext.specs.Lines.{of_rule}
use Rattle.booktext.specs.Cells.{Cell}
use Rattle.booktext.proofs.Ruling.{rules_counted}
use Rattle.booktext.proofs.rules.count_rules.Goals as goal

pub returns : goal.returns
returns c =
    let counted : c.count.result ≡ count_by (λ (cell : Cell). of_rule cell.verb) c.args.cells.now = search rules in
    λ t m names. counted ∙ rules_counted t c.args.cells.now m names
