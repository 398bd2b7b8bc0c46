-- `grade::order::follow_table` meets its contract: `refl` is the test of all its entries. Assumes nothing.
use mathlib.Core.Path.{refl}
use Rattle.hl7.specs.Bytes.{is_in}
use Rattle.grade.specs.Order.{may_follow}
use Rattle.grade.specs.Strict.{count_from}
use Rattle.grade.proofs.order.follow_table.Goals as goal

pub returns : goal.returns
unfolding may_follow is_in count_from
returns c = refl
