-- `hl7::refusal::wrong_segment` meets its contract, by the invariant that stands beside this. Assumes nothing.
use mathlib.Core.Path.{refl, sym, ap, ◌∙◌}
use Rattle.hl7.specs.Refusals.{first_of}
use Rattle.hl7.proofs.Refusing.{segment-right, segment_wrong, segment_open, segments-over}
use Rattle.hl7.proofs.refusal.wrong_segment.Goals as goal

pub loop-at-init : goal.loop-at-init
loop-at-init c = refl

pub returns-then-not-has_form : goal.returns-then-not-has_form
returns-then-not-has_form c = sym (ap first_of c.loop-at.invariant ∙ segment_wrong _ _ _ c.find_far-end.ensures c.if-end-m.true (sym c.has_form.ensures ∙ c.if-not-has_form.true))

pub loop-at-preserved : goal.loop-at-preserved
loop-at-preserved c = c.loop-at.invariant ∙ segment-right _ _ _ c.find_far-end.ensures c.if-end-m.true (sym c.has_form.ensures ∙ c.if-not-has_form.false)

pub returns-else-end-m : goal.returns-else-end-m
returns-else-end-m c = sym (ap first_of c.loop-at.invariant ∙ segment_open _ _ _ c.find_far-end.ensures c.loop-at-test.true c.if-end-m.false)

pub returns : goal.returns
returns c = sym (ap first_of (c.loop-at.invariant ∙ segments-over _ _ _ c.loop-at-test.false))
