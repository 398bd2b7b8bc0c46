-- `difference::side::Side::ruled` meets its contract. Assumes nothing.
use mathlib.Core.Path.{refl}
use native.Mathlib.Omega.{arith}
use Rattle.grade.specs.Reader.{times}
use Rattle.canonical.proofs.PutBook.{section-holds}
use Rattle.difference.proofs.Coding.{codes_none, set_there, set_inside, codes_stand, codes_some}
use Rattle.difference.proofs.side.Side.ruled.Goals as goal

pub rule_at-rule-requires : goal.rule_at-rule-requires
rule_at-rule-requires c =
    let side = c.args.self.now in
    let holds = section-holds side.book.now side.start side.stands side.sited in
    (holds, c.requires)

pub invariant_of-result : goal.invariant_of-result
unfolding times
invariant_of-result c = record { stand = refl }

pub returns-in_default : goal.returns-in_default
returns-in_default c =
    let side = c.args.self.now in
    let holds = section-holds side.book.now side.start side.stands side.sited in
    record { is = c.rule_at-rule.ensures; codes = codes_none side.book.now side.section holds c.args.i c.requires c.rule_at-rule.ensures c.in_default.not-Code }

pub overflow_sub-start : goal.overflow_sub-start
overflow_sub-start c =
    let side = c.args.self.now in
    let holds = section-holds side.book.now side.start side.stands side.sited in
    omega (arith, (set_there side.book.now side.section holds c.args.i c.requires c.rule_at-rule.ensures c.in-Code.is).0)

pub bounds-self-set : goal.bounds-self-set
bounds-self-set c =
    let side = c.args.self.now in
    let holds = section-holds side.book.now side.start side.stands side.sited in
    omega (arith, set_there side.book.now side.section holds c.args.i c.requires c.rule_at-rule.ensures c.in-Code.is, holds.few_sets, side.placed.sized)

pub overflow_add-result : goal.overflow_add-result
overflow_add-result c =
    let side = c.args.self.now in
    let holds = section-holds side.book.now side.start side.stands side.sited in
    omega (arith, set_inside side.book.now side.section holds c.args.i c.requires c.rule_at-rule.ensures c.in-Code.is side.placed refl)

pub pair_at-requires : goal.pair_at-requires
pair_at-requires c =
    let side = c.args.self.now in
    let holds = section-holds side.book.now side.start side.stands side.sited in
    set_inside side.book.now side.section holds c.args.i c.requires c.rule_at-rule.ensures c.in-Code.is side.placed refl

pub invariant_of-result-2 : goal.invariant_of-result-2
invariant_of-result-2 c =
    let side = c.args.self.now in
    let holds = section-holds side.book.now side.start side.stands side.sited in
    record { stand = codes_stand side.book.now side.section holds c.args.i c.requires c.rule_at-rule.ensures c.in-Code.is side.placed refl c.pair_at.ensures }

pub returns : goal.returns
returns c =
    let side = c.args.self.now in
    let holds = section-holds side.book.now side.start side.stands side.sited in
    record { is = c.rule_at-rule.ensures; codes = codes_some side.book.now side.section holds c.args.i c.requires c.rule_at-rule.ensures c.in-Code.is side.placed refl c.pair_at.ensures }
