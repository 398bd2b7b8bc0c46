-- `hl7::refusal::first_wrong_byte` meets its contract: the first position that is not allowed is the first of the wrong ones. Assumes nothing.
use mathlib.Core.Path.{◌∙◌}
use mathlib.Core.Bool.{not}
use borrow.Author.Tests.{tests}
use Rattle.std.proofs.Common.{rules}
use Rattle.std.proofs.lemmas.Iterator.{YieldsList-from_slice}
use Rattle.std.proofs.lemmas.Iterator.Adapters.{position_from-zero}
use Rattle.std.proofs.lemmas.Iterator.Search.{position_from_yields_List}
use Rattle.hl7.specs.Refusals.{allowed}
use Rattle.hl7.proofs.Refusing.{first_position}
use Rattle.hl7.proofs.refusal.first_wrong_byte.Goals as goal

pub returns : goal.returns
returns c =
    let m = c.args.m.now in
    position_from_yields_List (λ x. not (allowed x)) _ _ _ c.position.ensures.ran (YieldsList-from_slice m cc) (λ x b q k. search (rules, tests)) ∙ position_from-zero _ m ∙ first_position 0 m
