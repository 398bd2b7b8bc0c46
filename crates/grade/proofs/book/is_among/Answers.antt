-- `grade::book::is_among` meets its contract: `any` looks for the key among the texts at the positions. Assumes nothing.
use borrow.Author.Rules.{rules}
use borrow.Author.Tests.{tests}
use mathlib.Core.Path.{◌∙◌}
use Rattle.hl7.specs.Bytes.{same}
use Rattle.std.proofs.lemmas.Iterator.{YieldsList-from_slice}
use Rattle.std.proofs.lemmas.Iterator.Search.{any_from_yields_List}
use Rattle.grade.specs.Standing.{text_at, TextFits}
use Rattle.grade.proofs.Starting.{serves_from_slice, any_among}
use Rattle.grade.proofs.book.is_among.Goals as goal

pub any-requires-clause-callable : goal.any-requires-clause-callable
any-requires-clause-callable c = serves_from_slice (TextFits c.args.book.now) (λ x q r. search rules) (λ x h. search rules) (rw c.iter.ensures.rest c.requires)

pub returns : goal.returns
returns c =
    any_from_yields_List (λ at. same c.args.key.now (text_at c.args.book.now at)) _ _ c.any.result c.any.ensures.ran (YieldsList-from_slice c.args.starts.now cc) (λ x b q k. search (rules, tests))
    ∙ any_among (text_at c.args.book.now) c.args.key.now c.args.starts.now
