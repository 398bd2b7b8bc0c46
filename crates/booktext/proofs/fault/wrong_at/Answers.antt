-- `booktext::fault::wrong_at` meets its contract: `position` finds the first byte that is not allowed. Assumes nothing.
use mathlib.Core.Path.{ap, ◌∙◌}
use mathlib.Core.Bool.{not}
use borrow.Author.Tests.{tests}
use lib.ListN.{length}
use Rattle.std.proofs.Common.{rules}
use Rattle.std.specs.Option.{unwrap_or}
use Rattle.std.proofs.lemmas.Iterator.{YieldsList-from_slice}
use Rattle.std.proofs.lemmas.Iterator.Adapters.{position_from-zero}
use Rattle.std.proofs.lemmas.Iterator.Search.{position_from_yields_List}
use Rattle.booktext.specs.Refusals.{allowed}
use Rattle.booktext.proofs.Faulting.{wrong_found}
use Rattle.booktext.proofs.fault.wrong_at.Goals as goal

pub returns : goal.returns
returns c =
    let t = c.args.t.now in
    c.unwrap_or.ensures
    ∙ ap (λ r. unwrap_or r (length t)) (position_from_yields_List (λ x. not (allowed x)) _ _ _ c.position.ensures.ran (YieldsList-from_slice t cc) (λ x b q k. search (rules, tests)) ∙ position_from-zero _ t)
    ∙ wrong_found t
