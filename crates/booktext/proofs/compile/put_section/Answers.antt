-- `booktext::compile::put_section` meets its contract. Assumes nothing.
use mathlib.Core.Path.{refl, ap, ◌∙◌}
use native.Mathlib.Omega.{arith}
use borrow.Author.Rules.{rules}
use lib.ListN.{length}
use Rattle.booktext.proofs.Telling.{row-some, handed, handed-as}
use Rattle.booktext.proofs.Making.{lasting_rules, lasting_names, lasting_stray, lasting_front, lasting_sets, rules_many, sets_many, set_stray, set_bad, book-long, section_put}
use Rattle.booktext.proofs.compile.put_section.Goals as goal

pub returns-then-rules-gt-RULE_LIMIT : goal.returns-then-rules-gt-RULE_LIMIT
returns-then-rules-gt-RULE_LIMIT c = λ ss e. rules_many _ _ _ _ (lasting_rules c.args.t.now c.args.cells.now ss e _ (c.count_rules-rules.ensures c.args.t.now c.requires.3)) c.if-rules-gt-RULE_LIMIT.true c.over.ensures

pub returns-in_default : goal.returns-in_default
returns-in_default c = λ ss e. sets_many _ _ _ _ (lasting_rules c.args.t.now c.args.cells.now ss e _ (c.count_rules-rules.ensures c.args.t.now c.requires.3)) c.if-rules-gt-RULE_LIMIT.false (omega (arith, c.in_default.ensures, ap length (lasting_names c.args.t.now c.args.cells.now ss e))) c.over-in_default.ensures

pub first_stray-requires : goal.first_stray-requires
first_stray-requires c = c.requires.3

pub returns-in_err-first_stray : goal.returns-in_err-first_stray
returns-in_err-first_stray c = λ ss e. set_stray _ _ _ _ (lasting_rules c.args.t.now c.args.cells.now ss e _ (c.count_rules-rules.ensures c.args.t.now c.requires.3)) c.if-rules-gt-RULE_LIMIT.false _ (c.in-Some.ensures ∙ lasting_names c.args.t.now c.args.cells.now ss e) (search rules) (c.in_err-first_stray.ensures ∙ lasting_stray c.args.t.now c.args.cells.now ss e _ _) (row-some c.in_err-first_stray.field-0.0.row) (handed c.in_err-first_stray.field-0.0 c.from_residual.result c.from_residual.ensures.1)

pub put_front-next-requires : goal.put_front-next-requires
put_front-next-requires c = (c.requires.2, omega (arith, c.if-rules-gt-RULE_LIMIT.false), c.requires.4)

pub put_sets-requires : goal.put_sets-requires
put_sets-requires c = (c.requires.0, c.requires.3, c.requires.2, c.requires.1)

pub returns-in_err-end : goal.returns-in_err-end
returns-in_err-end c = λ ss e. rw (handed-as c.in_err-end.field-0.0 c.from_residual-in_err-end.result c.from_residual-in_err-end.ensures.1) (set_bad _ _ _ _ (lasting_rules c.args.t.now c.args.cells.now ss e _ (c.count_rules-rules.ensures c.args.t.now c.requires.3)) c.if-rules-gt-RULE_LIMIT.false _ (c.in-Some.ensures ∙ lasting_names c.args.t.now c.args.cells.now ss e) (search rules) (c.in_ok-first_stray.ensures ∙ lasting_stray c.args.t.now c.args.cells.now ss e _ _) refl (lasting_front c.args.t.now c.args.cells.now ss e c.args.head c.count_rules-rules.result _ c.put_front-next.ensures) (lasting_sets c.args.t.now c.args.cells.now ss e _ _ _ c.in_err-end.ensures) (row-some c.in_err-end.field-0.0.row))

pub returns-then-long : goal.returns-then-long
returns-then-long c = λ ss e. book-long _ _ _ _ (lasting_rules c.args.t.now c.args.cells.now ss e _ (c.count_rules-rules.ensures c.args.t.now c.requires.3)) c.if-rules-gt-RULE_LIMIT.false _ (c.in-Some.ensures ∙ lasting_names c.args.t.now c.args.cells.now ss e) (search rules) (c.in_ok-first_stray.ensures ∙ lasting_stray c.args.t.now c.args.cells.now ss e _ _) refl (lasting_front c.args.t.now c.args.cells.now ss e c.args.head c.count_rules-rules.result _ c.put_front-next.ensures) (lasting_sets c.args.t.now c.args.cells.now ss e _ _ _ c.in_ok-end.ensures) refl c.if-long.true c.over-then-long.ensures

pub returns : goal.returns
returns c = λ ss e. section_put _ _ _ _ (lasting_rules c.args.t.now c.args.cells.now ss e _ (c.count_rules-rules.ensures c.args.t.now c.requires.3)) c.if-rules-gt-RULE_LIMIT.false _ (c.in-Some.ensures ∙ lasting_names c.args.t.now c.args.cells.now ss e) (search rules) (c.in_ok-first_stray.ensures ∙ lasting_stray c.args.t.now c.args.cells.now ss e _ _) refl (lasting_front c.args.t.now c.args.cells.now ss e c.args.head c.count_rules-rules.result _ c.put_front-next.ensures) (lasting_sets c.args.t.now c.args.cells.now ss e _ _ _ c.in_ok-end.ensures) refl c.if-long.false
