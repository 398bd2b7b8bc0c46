-- `canonical::show::put_sets` meets its contract, by the invariant that stands beside this. Assumes nothing.
use Prim.Native.Nat.{ℕ, ◌<◌}
use native.Mathlib.Omega.{arith}
use Rattle.std.proofs.Common.{get_or-take, length-take}
use Rattle.grade.specs.Standing.{sets_in}
use Rattle.grade.proofs.Holding.{placed_at}
use Rattle.ack.proofs.Adding.{adding_more, adding_over}
use Rattle.canonical.proofs.PutSets.{sets-at, sets_more, sets_over}
use Rattle.canonical.proofs.show.put_sets.Goals as goal

pub loop-i-init : goal.loop-i-init
loop-i-init c = λ sets are after w. w

pub put_set-requires : goal.put_set-requires
put_set-requires c =
    let inside : c.loop-i.i < c.args.section.set_count = omega (arith, length-take {A = ℕ}) in
    rw get_or-take (placed_at c.args.book.now c.args.section c.sets_of-places.ensures c.requires c.loop-i.i inside).stands

pub loop-i-preserved : goal.loop-i-preserved
loop-i-preserved c =
    λ sets are.
    adding_more (c.loop-i.invariant sets are)
    (sets_more c.args.key.now sets c.loop-i.i (omega (arith, are.0)) (are.1 c.loop-i.i (omega arith)))
    c.put_set.ensures

pub returns : goal.returns
returns c =
    let are = sets-at c.args.book.now c.args.section c.sets_of-places.ensures c.requires in
    adding_over (c.loop-i.invariant (sets_in c.args.book.now c.args.section) are)
    (sets_over c.args.key.now _ c.loop-i.i (omega (arith, are.0)))
