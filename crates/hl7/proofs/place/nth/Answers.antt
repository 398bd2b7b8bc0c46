-- `hl7::place::nth` meets its contract: each `return` is a case of `nth_of`. Assumes nothing.
use mathlib.Core.Path.{◌∙◌}
use native.Mathlib.Omega.{arith}
use Rattle.hl7.proofs.Cutting.{piece_from-start, piece_here, end_within, spans_as, spans_whole, spans_between}
use Rattle.hl7.proofs.Placing.{nth_zero, nth_whole, nth_past_whole, nth_cut}
use Rattle.hl7.proofs.place.nth.Goals as goal

pub returns-then-k-eq0 : goal.returns-then-k-eq0
returns-then-k-eq0 c = spans_as (nth_zero _ _ (omega arith)) c.missing_span.ensures

pub returns-then-k-eq1 : goal.returns-then-k-eq1
returns-then-k-eq1 c = spans_as (nth_whole _ _ (cc) (omega arith)) (spans_whole _)

pub returns-then-whole : goal.returns-then-whole
returns-then-whole c = spans_as (nth_past_whole _ _ (cc) (omega arith) (omega arith)) c.missing_span-then-whole.ensures

pub returns-then-k-eq1-2 : goal.returns-then-k-eq1-2
returns-then-k-eq1-2 c =
    let args = c.args in
    let within = end_within args.d args.s.now 0 (omega arith) in
    spans_as (nth_cut _ _ (cc) (omega arith) ∙ piece_from-start _ _ _ ∙ piece_here _ _ _ c.find_far.ensures (omega arith)) (spans_between _ _ _ (omega arith) (omega arith))

pub returns : goal.returns
returns c = spans_as (nth_cut _ _ (cc) (omega arith)) c.part.ensures
