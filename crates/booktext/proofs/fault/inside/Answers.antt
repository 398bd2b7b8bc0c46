-- `booktext::fault::inside` meets its contract. Assumes nothing.
use mathlib.Core.Path.{sym, ◌∙◌}
use Rattle.booktext.proofs.fault.inside.Goals as goal

pub returns-then-is_head : goal.returns-then-is_head
returns-then-is_head c = rw (sym c.is_head.ensures ∙ c.if-is_head.true)

pub returns-else-is_head : goal.returns-else-is_head
returns-else-is_head c = rw (sym c.is_head.ensures ∙ c.if-is_head.false)
