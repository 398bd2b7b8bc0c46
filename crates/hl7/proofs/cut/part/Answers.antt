-- `hl7::cut::part` meets its contract, by the invariant that stands beside this. Assumes nothing.
use mathlib.Core.Path.{◌≡◌, ap, ◌∙◌}
use Prim.Native.Nat.{◌+◌, ◌-◌}
use native.Mathlib.Omega.{arith}
use Rattle.hl7.specs.Spans.{piece_from}
use Rattle.hl7.proofs.Cutting.{piece_here, piece_next, piece_none, end_within, spans_as, spans_missing, spans_between}
use Rattle.hl7.proofs.cut.part.Goals as goal

pub returns-then-n-end : goal.returns-then-n-end
returns-then-n-end c = spans_as (c.loop.invariant.1 ∙ piece_none _ _ _ c.find-end.ensures (omega arith) c.loop.invariant.0 c.if-n-end.true) (spans_missing _)

pub loop-preserved : goal.loop-preserved
loop-preserved c =
    let a = c.args in
    let left = c.pass_parts-passed.result.parts in
    let one_less : left - c.loop.counter - 1 ≡ left - (c.loop.counter + 1) = omega arith in
    (omega arith, c.loop.invariant.1 ∙ piece_next _ _ _ c.find-end.ensures (omega arith) c.if-n-end.false ∙ ap (piece_from a.d a.s.now (c.find-end.result + 1)) one_less)

pub returns : goal.returns
returns c =
    let within = end_within c.args.d c.args.s.now c.loop.start c.loop.invariant.0 in
    spans_as (c.loop.invariant.1 ∙ piece_here _ _ _ c.find.ensures (omega arith)) (spans_between _ _ _ (omega arith) (omega arith))
