-- `grade::value::is_unsigned` meets its contract, by the invariant that stands beside this. Assumes nothing.
use mathlib.Core.Bool.{true, false, ◌||◌}
use mathlib.Core.Path.{◌≡◌}
use native.Mathlib.Omega.{arith}
use lib.Dec.{eqb}
use lib.ListN.{get_or}
use Rattle.hl7.specs.Bytes.{is_digit}
use Rattle.hl7.proofs.Comparing.{picked_most}
use Rattle.grade.proofs.Counting.{passed_more, passed_stop, passed_over}
use Rattle.grade.proofs.value.is_unsigned.Goals as goal

pub returns-then-not-is_within-point : goal.returns-then-not-is_within-point
returns-then-not-is_within-point c =
    let v = c.args.v.now in
    let l = c.loop-b in
    let other : is_digit (get_or v l.b-index 0) || eqb (get_or v l.b-index 0) 46 ≡ false = rw (← c.is_within.ensures) (c.if-not-is_within-point.true) in
    passed_stop v l.points l.b-index l.invariant (omega arith) other

pub overflow_add-points : goal.overflow_add-points
overflow_add-points c = omega (arith, picked_most _ 1 0 _ c.pick-points.ensures)

pub loop-b-preserved : goal.loop-b-preserved
loop-b-preserved c =
    let v = c.args.v.now in
    let l = c.loop-b in
    let fine : is_digit (get_or v l.b-index 0) || eqb (get_or v l.b-index 0) 46 ≡ true = rw (← c.is_within.ensures) (c.if-not-is_within-point.false) in
    passed_more v l.points l.b-index l.invariant c.pick-points.result c.pick-points.ensures (omega arith) fine

pub returns : goal.returns
returns c =
    let l = c.loop-b in
    passed_over c.args.v.now l.points l.b-index l.invariant c.loop-b-test.false
