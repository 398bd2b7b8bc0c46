-- `difference::line::put_unless` meets its contract. Assumes nothing.
use mathlib.Core.Path.{refl, sym, ◌∙◌}
use Rattle.ack.proofs.Adding.{adds_none}
use Rattle.difference.proofs.line.put_unless.Goals as goal

pub returns-then-has_code : goal.returns-then-has_code
returns-then-has_code c = rw (sym c.has_code.ensures ∙ c.if-has_code.true) (adds_none _ refl)

pub returns : goal.returns
returns c = rw (sym c.has_code.ensures ∙ c.if-has_code.false) c.put_code.ensures
