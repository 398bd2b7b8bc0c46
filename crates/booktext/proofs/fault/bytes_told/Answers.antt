-- `booktext::fault::bytes_told` meets its contract. Assumes nothing.
use mathlib.Core.Path.{◌∙◌}
use Rattle.booktext.proofs.Faulting.{told-long, told_wrong, told-right}
use Rattle.booktext.proofs.fault.bytes_told.Goals as goal

pub returns-then-t-gt-TEXT_LIMIT : goal.returns-then-t-gt-TEXT_LIMIT
returns-then-t-gt-TEXT_LIMIT c = c.with.ensures ∙ told-long c.args.t.now c.if-t-gt-TEXT_LIMIT.true

pub returns-then-at-t : goal.returns-then-at-t
returns-then-at-t c = c.with-then-at-t.ensures ∙ told_wrong _ c.if-t-gt-TEXT_LIMIT.false c.wrong_at-at.ensures c.if-at-t.true c.line_of.ensures

pub returns : goal.returns
returns c = told-right _ c.if-t-gt-TEXT_LIMIT.false c.wrong_at-at.ensures c.if-at-t.false
