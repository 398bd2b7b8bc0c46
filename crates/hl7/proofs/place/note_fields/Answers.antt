-- `hl7::place::note_fields` meets its contract, by the invariant that stands beside this. Assumes nothing.
use native.Mathlib.Omega.{arith}
use lib.ListN.{length-set}
use Rattle.hl7.proofs.Cutting.{end_within}
use Rattle.hl7.proofs.Noting.{noting_none, noting_more, noted-all, noted-none}
use Rattle.hl7.proofs.place.note_fields.Goals as goal

pub returns-then-size-eq0 : goal.returns-then-size-eq0
returns-then-size-eq0 c = noted-none _ _ _ (omega arith)

pub loop-k-init : goal.loop-k-init
loop-k-init c = (omega arith, noting_none _ _ c.args.starts.now (omega arith))

pub shape_of-starts-then-n-at : goal.shape_of-starts-then-n-at
shape_of-starts-then-n-at c = simp length-set (omega arith)

pub returns-then-n-at : goal.returns-then-n-at
returns-then-n-at c = noted-all _ _ _ _ _ _ c.loop-k.invariant.1 (simp length-set (omega arith)) c.if-n-at.true

pub overflow_add-at : goal.overflow_add-at
overflow_add-at c =
    let args = c.args in
    omega (arith, end_within args.d.bar args.seg.now c.loop-k.at c.if-n-at.false)

pub loop-k-preserved : goal.loop-k-preserved
loop-k-preserved c = (simp length-set c.loop-k.invariant.0, noting_more _ _ _ _ _ _ c.loop-k.invariant.1 _ (simp length-set (omega arith)) c.if-n-at.false c.find-at.ensures)
