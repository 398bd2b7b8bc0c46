-- `difference::ruled::Ruled::all_among` meets its contract, by the invariant that stands beside this. Assumes nothing.
use mathlib.Core.Path.{◌≡◌, refl, sym, ap, ◌∙◌}
use mathlib.Core.Bool.{Bool, ◌&&◌}
use mathlib.Core.List.{List}
use Prim.Native.Nat.{ℕ, ◌+◌, ◌-◌, ◌<◌}
use native.Mathlib.Omega.{arith}
use Rattle.hl7.specs.Bytes.{among}
use Rattle.grade.proofs.Parts.{code_fits}
use Rattle.difference.specs.Difference.{all_among}
use Rattle.difference.specs.Ruled.{codes_in}
use Rattle.difference.proofs.Coding.{codes_from, codes-found, every_more, every-over}
use Rattle.difference.proofs.ruled.Ruled.all_among.Goals as goal

pub loop-i-init : goal.loop-i-init
loop-i-init c = let all : c.args.self.now.count - 0 ≡ c.args.self.now.count = omega arith in rw all (c.args.self.now.stand, refl)

pub text_part-requires : goal.text_part-requires
text_part-requires c = code_fits c.args.self.now.book.now (c.args.self.now.count - c.loop-i._i) c.loop-i.from (omega arith) c.loop-i.invariant.0

pub text_after-from-requires : goal.text_after-from-requires
text_after-from-requires c = code_fits c.args.self.now.book.now (c.args.self.now.count - c.loop-i._i) c.loop-i.from (omega arith) c.loop-i.invariant.0

pub loop-i-preserved : goal.loop-i-preserved
loop-i-preserved c =
    let b = c.args.self.now.book.now in
    let others = codes_in c.args.other.now in
    let left = c.args.self.now.count - c.loop-i._i in
    let one : c.args.self.now.count - (c.loop-i._i + 1) ≡ left - 1 = omega arith in
    let from = c.loop-i.from in
    let so = c.loop-i.every in
    let some : 0 < left = omega arith in
    let here = c.loop-i.invariant.0 in
    let next = c.text_after-from.ensures in
    rw one (
      codes-found b left from some here next,
      c.loop-i.invariant.1 ∙ every_more b left from some here next others so ∙ ap (λ (t : Bool). (so && t) && all_among (codes_from b (left - 1) c.text_after-from.result) others) (sym (c.has_code-every.ensures ∙ ap (λ (v : List ℕ). among v others) c.text_part.ensures)),
    )

pub returns : goal.returns
returns c = sym (c.loop-i.invariant.1 ∙ every-over c.args.self.now.book.now (c.args.self.now.count - c.loop-i._i) c.loop-i.from (codes_in c.args.other.now) c.loop-i.every (omega arith))
