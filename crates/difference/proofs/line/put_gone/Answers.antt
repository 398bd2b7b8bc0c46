-- `difference::line::put_gone` meets its contract, by the invariant that stands beside this. Assumes nothing.
use mathlib.Core.Path.{◌≡◌}
use Prim.Native.Nat.{◌+◌, ◌-◌, ◌<◌}
use native.Mathlib.Omega.{arith}
use Rattle.grade.proofs.Parts.{code_fits}
use Rattle.ack.proofs.Adding.{adding_more, adding_over}
use Rattle.difference.specs.Ruled.{codes_in}
use Rattle.difference.proofs.Coding.{codes-found, gone_more, gone-over}
use Rattle.difference.proofs.line.put_gone.Goals as goal

pub loop-i-init : goal.loop-i-init
loop-i-init c = let all : c.args.ruled.now.count - 0 ≡ c.args.ruled.now.count = omega arith in rw all (c.args.ruled.now.stand, λ after w. w)

pub text_part-requires : goal.text_part-requires
text_part-requires c = code_fits c.args.ruled.now.book.now (c.args.ruled.now.count - c.loop-i._i) c.loop-i.from (omega arith) c.loop-i.invariant.0

pub text_after-from-requires : goal.text_after-from-requires
text_after-from-requires c = code_fits c.args.ruled.now.book.now (c.args.ruled.now.count - c.loop-i._i) c.loop-i.from (omega arith) c.loop-i.invariant.0

pub loop-i-preserved : goal.loop-i-preserved
loop-i-preserved c =
    let b = c.args.ruled.now.book.now in
    let others = codes_in c.args.other.now in
    let left = c.args.ruled.now.count - c.loop-i._i in
    let one : c.args.ruled.now.count - (c.loop-i._i + 1) ≡ left - 1 = omega arith in
    let from = c.loop-i.from in
    let some : 0 < left = omega arith in
    let here = c.loop-i.invariant.0 in
    let next = c.text_after-from.ensures in
    rw one (codes-found b left from some here next, adding_more c.loop-i.invariant.1 (gone_more b left from some here next c.args.mark others) (rw c.text_part.ensures at c.put_unless.ensures))

pub returns : goal.returns
returns c =
    let others = codes_in c.args.other.now in
    adding_over c.loop-i.invariant.1 (gone-over c.args.ruled.now.book.now (c.args.ruled.now.count - c.loop-i._i) c.loop-i.from c.args.mark others (omega arith))
