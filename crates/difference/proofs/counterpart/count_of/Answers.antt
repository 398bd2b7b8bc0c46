-- `difference::counterpart::count_of` meets its contract. Assumes nothing.
use mathlib.Core.Path.{◌≡◌, sym, ◌∙◌}
use lib.Dec.{eqb}
use Rattle.std.proofs.Common.{rules, count_by}
use Rattle.hl7.proofs.Comparing.{occurs_counted}
use Rattle.difference.proofs.counterpart.count_of.Goals as goal

pub returns : goal.returns
returns c =
    let many : c.count.result ≡ count_by (λ x. eqb x c.args.spot) c.args.noted.now = search rules in
    many ∙ sym (occurs_counted c.args.spot c.args.noted.now)
