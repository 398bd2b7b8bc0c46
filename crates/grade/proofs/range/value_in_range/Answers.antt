-- `grade::range::value_in_range` meets its contract. Assumes nothing.
use mathlib.Core.Path.{sym, ◌∙◌}
use Rattle.grade.proofs.range.value_in_range.Goals as goal

pub returns-then-is_header : goal.returns-then-is_header
returns-then-is_header c = rw (c.is_error.ensures, c.at_place.ensures, sym c.is_header.ensures ∙ c.if-is_header.true)

pub returns : goal.returns
returns c = rw (c.has_severity.ensures, c.is_rule.ensures, c.at_place-2.ensures, sym c.is_header.ensures ∙ c.if-is_header.false)
