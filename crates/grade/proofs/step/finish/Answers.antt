-- `grade::step::finish` meets its contract: the end's finding, if it has one. Assumes nothing.
use mathlib.Core.Path.{sym, ap, ◌∙◌}
use Rattle.grade.specs.Rule.{other_number}
use Rattle.grade.specs.Rest.{none_wrong, end_by, between_at}
use Rattle.grade.specs.declared.step.Entered.TheVariants as Entered
use Rattle.grade.proofs.step.finish.Goals as goal

pub returns-then-out_of_order : goal.returns-then-out_of_order
returns-then-out_of_order c =
    let a = c.args in
    (λ i. Entered.Order (c.order_finding.ensures i) ((c.between.ensures ∙ ap (λ h. between_at h a.section.rule_count a.end other_number) c.none_wrong.ensures) i)) ∙ ap (λ b. end_by b (between_at none_wrong a.section.rule_count a.end other_number)) (sym (sym c.out_of_order.ensures ∙ c.if-out_of_order.true))

pub returns : goal.returns
returns c =
    let a = c.args in
    ap (λ b. end_by b (between_at none_wrong a.section.rule_count a.end other_number)) (sym (sym c.out_of_order.ensures ∙ c.if-out_of_order.false))
