-- `grade::lookup::rule_named` meets its contract: the ten bytes at the computed place say the rule (`its_bytes`). Assumes nothing.
use mathlib.Core.Path.{sym, ◌∙◌}
use native.Mathlib.Omega.{arith}
use Rattle.grade.proofs.Holding.{its_bytes, its_name, its_said}
use Rattle.grade.proofs.lookup.rule_named.Goals as goal

pub overflow_add-section : goal.overflow_add-section
overflow_add-section c = omega (arith, (its_bytes c.args.book.now c.args.section c.requires.0 c.args.i c.requires.1).0)

pub rule_said-requires : goal.rule_said-requires
rule_said-requires c = ((its_bytes c.args.book.now c.args.section c.requires.0 c.args.i c.requires.1).0, c.requires.2 ∙ sym (its_name c.args.book.now c.args.section c.requires.0 c.args.i c.requires.1))

pub unwrap-requires : goal.unwrap-requires
unwrap-requires c = rw (c.rule_said.ensures ∙ its_said c.args.book.now c.args.section c.requires.0 c.args.i c.requires.1)

pub returns : goal.returns
returns c =
    let said = c.rule_said.ensures ∙ its_said c.args.book.now c.args.section c.requires.0 c.args.i c.requires.1 in
    let same = sym c.unwrap.ensures ∙ said in
    cc
