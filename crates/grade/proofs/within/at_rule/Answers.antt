-- `grade::within::at_rule` meets its contract: what the repetitions of the rule's field give is what the rule gives. Assumes nothing.
use Prim.Native.Nat.{◌-◌}
use native.Mathlib.Omega.{arith}
use lib.ListN.{drop, length-take, length-drop}
use Rattle.grade.specs.Standing.{sets_in}
use Rattle.grade.proofs.Naming.{counted_bounds}
use Rattle.grade.proofs.Judging.{codes-stand}
use Rattle.grade.proofs.Spots.{codes-known, rule_found, rule_last, rule-fine}
use Rattle.grade.proofs.within.at_rule.Goals as goal

-- one of ten names fits a byte
pub overflow_cast-here : goal.overflow_cast-here
overflow_cast-here c = omega (arith, (counted_bounds c.args.here.name c.requires.3.counts).1)

pub rule_named-rule-requires : goal.rule_named-rule-requires
rule_named-rule-requires c =
    let p = c.requires in
    (p.1, p.6, omega (arith, p.4.about p.6, (counted_bounds c.args.here.name p.3.counts).1))

pub next_value-requires : goal.next_value-requires
next_value-requires c =
    let a = c.args in
    let p = c.requires in
    let field = c.field_of-field.result in
    let known = c.field_of-field.ensures in (
      omega (arith, p.0, length-take (field.end - field.start) (drop field.start a.m.now), length-drop field.start a.m.now),
      p.4.passed,
      codes-stand a.book.now (sets_in a.book.now a.section) field.codes c.rule_named-rule.result.kind (codes-known a.d a.m.now a.book.now a.section a.here p.1 p.3 a.spot p.6 (p.4.about p.6) c.rule_named-rule.result c.rule_named-rule.ensures known),
      known.untilded,
    )

pub overflow_add-spot : goal.overflow_add-spot
overflow_add-spot c =
    let p = c.requires in
    omega (arith, p.6, p.1.few_rules)

pub value_finding-finding-requires : goal.value_finding-finding-requires
value_finding-finding-requires c =
    let a = c.args in
    let p = c.requires in
    ((counted_bounds a.here.name p.3.counts).1, omega (arith, p.6, p.1.few_rules))

pub returns-then-past : goal.returns-then-past
returns-then-past c =
    let a = c.args in
    let p = c.requires in
    rule_last a.d a.m.now a.book.now a.section a.here p.1 p.3 a.spot p.6 (p.4.about p.6) c.rule_named-rule.result c.rule_named-rule.ensures c.field_of-field.ensures c.next_value.ensures _ _ c.in-Some.is c.value_finding-finding.ensures c.if-past.true

pub returns-else-past : goal.returns-else-past
returns-else-past c =
    let a = c.args in
    let p = c.requires in
    rule_found a.d a.m.now a.book.now a.section a.here p.1 p.3 a.spot p.6 (p.4.about p.6) c.rule_named-rule.result c.rule_named-rule.ensures c.field_of-field.ensures c.next_value.ensures _ _ c.in-Some.is c.value_finding-finding.ensures

pub returns-in-None : goal.returns-in-None
returns-in-None c =
    let a = c.args in
    let p = c.requires in
    rule-fine a.d a.m.now a.book.now a.section a.here p.1 p.3 a.spot p.6 (p.4.about p.6) c.rule_named-rule.result c.rule_named-rule.ensures c.field_of-field.ensures c.next_value.ensures c.in-None.is
