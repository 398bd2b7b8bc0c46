-- `grade::lookup::look` meets its contract: a code that is as long as the value ends where the value's length says; any other is not the value. Assumes nothing.
use mathlib.Core.Path.{sym, ◌∙◌}
use native.Mathlib.Omega.{arith}
use Rattle.grade.proofs.Parts.{text_other}
use Rattle.grade.proofs.lookup.look.Goals as goal

pub returns-then-same_bytes : goal.returns-then-same_bytes
returns-then-same_bytes c = rw c.text_part.ensures at (sym c.same_bytes.ensures ∙ c.if-same_bytes.true)

pub returns-then-from-n : goal.returns-then-from-n
returns-then-from-n c = (rw c.text_part.ensures at (sym c.same_bytes.ensures ∙ c.if-same_bytes.false), omega (arith, c.from.ensures, c.if-from-n.true))

pub returns : goal.returns
returns c = (text_other c.args.book.now c.args.at c.args.value.now _ c.requires c.from.ensures c.if-from-n.false, c.text_after.ensures)
