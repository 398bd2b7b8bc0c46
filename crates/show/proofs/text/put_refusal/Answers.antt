-- `show::text::put_refusal` meets its contract. Assumes nothing.
use mathlib.Core.Path.{◌∙◌}
use native.Mathlib.Omega.{arith}
use borrow.Author.Rules.{rules}
use Rattle.ack.proofs.Adding.{◌next◌, wrote_lent}
use Rattle.show.specs.Shown.{refusal}
use Rattle.show.proofs.text.put_refusal.Goals as goal

pub returns : goal.returns
unfolding refusal
returns c =
    rw (← (c.from.ensures ∙ c.number.ensures), ← c.detail.ensures)
    (wrote_lent (c.put.ensures next c.put_number.ensures next c.put_number-2.ensures next c.put_byte.ensures) (omega arith) (omega arith) (search rules))
