-- `ack::layout::put_translated` meets its contract, by the invariant that stands beside this. Assumes nothing.
use mathlib.Core.Path.{refl}
use native.Mathlib.Omega.{arith}
use Prim.Native.Nat.{◌<◌}
use lib.ListN.{length-set, length-map}
use Rattle.std.proofs.lemmas.List.{get_or-take, length-take-le}
use Rattle.ack.specs.Splice.{splice}
use Rattle.ack.specs.Layout.{own_byte}
use Rattle.ack.proofs.Lines.{own_at}
use Rattle.ack.proofs.Writing.{splice_more, wrote-front}
use Rattle.ack.proofs.layout.put_translated.Goals as goal

pub loop-i-init : goal.loop-i-init
unfolding splice
loop-i-init c = (refl, refl)

pub loop-i-preserved : goal.loop-i-preserved
loop-i-preserved c =
    let text = c.args.text.now in
    let long = length-map text (own_byte c.args.d) in
    let some : c.loop-i.i < c.fitting-n.result = omega (arith, length-take-le c.fitting-n.result text (omega arith)) in
    let byte = own_at c.args.d text c.loop-i.i in (
      rw (c.own_byte.ensures, get_or-take, ← byte) (splice_more _ _ _ _ _ (omega arith) c.loop-i.invariant.0),
      simp length-set c.loop-i.invariant.1,
    )

pub returns : goal.returns
returns c =
    let text = c.args.text.now in
    let long = length-map text (own_byte c.args.d) in
    wrote-front _ _ _ c.loop-i.i (omega arith) (omega (arith, length-take-le c.fitting-n.result text (omega arith))) c.loop-i.invariant.0 (omega arith)
