-- `grade::step::note_segment` meets its contract. Assumes nothing.
use mathlib.Core.Path.{sym, ◌∙◌}
use mathlib.Core.Bool.{true≢false}
use Rattle.grade.proofs.step.note_segment.Goals as goal

pub returns-then-some : goal.returns-then-some
returns-then-some c = λ e. record { noted = c.note_fields-count.ensures.noted; untilded = λ t. sym c.none_is.ensures ∙ t }

pub returns : goal.returns
returns c = λ e. absurd (true≢false (sym e ∙ c.if-some.false))
