-- `hl7::delimiters::may_cut` meets its contract: each of the five, and their differing. Assumes nothing.
use mathlib.Core.Path.{sym, ◌∙◌}
use Rattle.hl7.proofs.Delimiting.{standard-cut, asked_each}
use Rattle.hl7.proofs.delimiters.may_cut.Goals as goal

pub returns-then-is_standard : goal.returns-then-is_standard
returns-then-is_standard c = standard-cut _ (sym c.is_standard.ensures ∙ c.if-is_standard.true)

pub returns : goal.returns
returns c = asked_each _ c.may_delimit.ensures c.may_delimit-2.ensures c.may_delimit-3.ensures c.may_delimit-4.ensures c.may_delimit-5.ensures c.are_distinct.ensures
