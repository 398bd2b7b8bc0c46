-- `ack::layout::put_own` meets its contract. Assumes nothing.
use mathlib.Core.Path.{sym, ◌∙◌}
use Rattle.ack.proofs.Lines.{own-standard}
use Rattle.ack.proofs.Adding.{adds_as}
use Rattle.ack.proofs.layout.put_own.Goals as goal

pub returns-then-is_standard : goal.returns-then-is_standard
returns-then-is_standard c =
    let a = c.args in
    adds_as c.put.ensures (own-standard a.d (sym c.is_standard.ensures ∙ c.if-is_standard.true) a.text.now)
