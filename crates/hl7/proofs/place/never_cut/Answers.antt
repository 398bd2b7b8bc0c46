-- `hl7::place::never_cut` meets its contract: from field 3 on every field is cut. Assumes nothing.
use mathlib.Core.Path.{sym, ◌∙◌}
use borrow.Author.Tests.{lt-leb}
use Rattle.hl7.proofs.Placing.{cut_later, cut_early}
use Rattle.hl7.proofs.place.never_cut.Goals as goal

pub returns-then-f-le2 : goal.returns-then-f-le2
returns-then-f-le2 c = c.is_msh.ensures ∙ sym (cut_early _ c.if-f-le2.true)

pub returns-else-f-le2 : goal.returns-else-f-le2
returns-else-f-le2 c = lt-leb _ _ c.if-f-le2.false ∙ sym (cut_later _ c.if-f-le2.false)
