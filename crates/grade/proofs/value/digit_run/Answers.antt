-- `grade::value::digit_run` meets its contract, by the invariant that stands beside this. Assumes nothing.
use mathlib.Core.Bool.{true, false}
use mathlib.Core.Path.{◌≡◌}
use native.Mathlib.Omega.{arith}
use lib.ListN.{get_or}
use Rattle.hl7.specs.Bytes.{is_digit}
use Rattle.grade.proofs.Counting.{run_more, run_stop, run_none}
use Rattle.grade.proofs.value.digit_run.Goals as goal

pub returns-then-not-is_within : goal.returns-then-not-is_within
returns-then-not-is_within c =
    let v = c.args.v.now in
    let i = c.loop-i.i in
    let other : is_digit (get_or v i 0) ≡ false = rw (← c.is_within.ensures) (c.if-not-is_within.true) in
    omega (arith, run_stop v i (omega arith) other)

pub loop-i-preserved : goal.loop-i-preserved
loop-i-preserved c =
    let v = c.args.v.now in
    let i = c.loop-i.i in
    let digit : is_digit (get_or v i 0) ≡ true = rw (← c.is_within.ensures) (c.if-not-is_within.false) in
    omega (arith, run_more v i (omega arith) digit)

pub returns : goal.returns
returns c =
    let v = c.args.v.now in
    omega (arith, run_none v c.loop-i.i (omega arith))
