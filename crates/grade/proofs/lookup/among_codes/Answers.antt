-- `grade::lookup::among_codes` meets its contract, by the invariant that stands beside this. Assumes nothing.
use Prim.Native.Nat.{◌+◌, ◌-◌}
use mathlib.Core.Path.{◌≡◌, sym}
use native.Mathlib.Omega.{arith}
use Rattle.grade.proofs.Parts.{code_fits}
use Rattle.grade.proofs.Coding.{CodesToLookAt, look_begun, code_unlike, code_alike, code_none}
use Rattle.grade.proofs.lookup.among_codes.Goals as goal

pub loop-init : goal.loop-init
loop-init c = look_begun c.args.book.now c.args.value.now c.args.count c.args.at c.requires

pub look-requires : goal.look-requires
look-requires c = code_fits c.args.book.now (c.args.count - c.loop.counter) c.loop.from (omega arith) c.loop.invariant.reads

pub returns-in-Break : goal.returns-in-Break
returns-in-Break c =
    let a = c.args in
    sym (code_alike a.book.now a.value.now a.count a.at (a.count - c.loop.counter) c.loop.from (omega arith) c.loop.invariant (rw c.in-Break.is at c.look.ensures))

pub loop-preserved : goal.loop-preserved
loop-preserved c =
    let a = c.args in
    let left = a.count - c.loop.counter in
    let looks = rw c.in-Continue.is at c.look.ensures in
    let one_less : left - 1 ≡ a.count - (c.loop.counter + 1) = omega arith in
    rw one_less at (code_unlike a.book.now a.value.now a.count a.at left c.loop.from _ (omega arith) c.loop.invariant looks.0 looks.1)

pub returns : goal.returns
returns c =
    let a = c.args in
    sym (code_none a.book.now a.value.now a.count a.at (a.count - c.loop.counter) c.loop.from (omega arith) c.loop.invariant)
