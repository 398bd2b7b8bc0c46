-- `canonical::show::put_codes` meets its contract, by the invariant that stands beside this. Assumes nothing.
use mathlib.Core.Path.{◌≡◌}
use Prim.Native.Nat.{◌-◌, ◌+◌}
use native.Mathlib.Omega.{arith}
use Rattle.grade.proofs.Parts.{code_fits}
use Rattle.ack.proofs.Adding.{adding_more, adding_over}
use Rattle.canonical.proofs.PutSets.{codes_more, codes-over}
use Rattle.canonical.proofs.show.put_codes.Goals as goal

pub loop-i-init : goal.loop-i-init
loop-i-init c =
    let all : c.args.count - 0 ≡ c.args.count = omega arith in
    rw all (c.requires, λ after w. w)

pub put_code-requires : goal.put_code-requires
put_code-requires c = code_fits c.args.book.now _ c.loop-i.from (omega arith) c.loop-i.invariant.0

pub text_after-from-requires : goal.text_after-from-requires
text_after-from-requires c = code_fits c.args.book.now _ c.loop-i.from (omega arith) c.loop-i.invariant.0

pub loop-i-preserved : goal.loop-i-preserved
loop-i-preserved c =
    let left = c.args.count - c.loop-i._i in
    let one : c.args.count - (c.loop-i._i + 1) ≡ left - 1 = omega arith in
    let more = codes_more c.args.book.now left c.loop-i.from (omega arith) c.loop-i.invariant.0 c.text_after-from.ensures in
    rw one (more.0, adding_more c.loop-i.invariant.1 more.1 c.put_code.ensures)

pub returns : goal.returns
returns c = adding_over c.loop-i.invariant.1 (codes-over c.args.book.now _ c.loop-i.from (omega arith))
