-- `booktext::line::line_of` meets its contract: `filter` and `count` count the LFs before the position. Assumes nothing.
use mathlib.Core.Path.{◌≡◌, sym, ap, ◌∙◌}
use Prim.Native.Nat.{ℕ, ◌+◌}
use lib.Dec.{eqb}
use Rattle.std.proofs.Common.{rules, count_by}
use Rattle.booktext.specs.Lines.{line_feed}
use Rattle.hl7.proofs.Comparing.{occurs_counted}
use Rattle.booktext.proofs.Words.{line-start}
use Rattle.booktext.proofs.line.line_of.Goals as goal

pub returns : goal.returns
returns c =
    let many : c.count.result ≡ count_by (λ x. eqb x line_feed) c.front.result.now = search rules in
    ap (λ (n : ℕ). 1 + n) (many ∙ sym (occurs_counted line_feed c.front.result.now)) ∙ sym (line-start c.args.t.now c.args.at c.front.ensures)
