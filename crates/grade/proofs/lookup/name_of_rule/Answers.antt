-- `grade::lookup::name_of_rule` meets its contract: the rule's first three bytes spell its segment's name. Assumes nothing.
use mathlib.Core.Path.{◌∙◌}
use native.Mathlib.Omega.{arith}
use lib.ListN.{get_or}
use Rattle.grade.specs.Rule.{no_rule}
use Rattle.grade.specs.Standing.{rules_in}
use Rattle.grade.proofs.Naming.{counted_bounds}
use Rattle.grade.proofs.Holding.{its_bytes, its_name, rule_fits_lem, place_limits}
use Rattle.grade.proofs.lookup.name_of_rule.Goals as goal

pub overflow_add-section : goal.overflow_add-section
overflow_add-section c = omega (arith, (its_bytes c.args.book.now c.args.section c.requires.0 c.args.i c.requires.1).0)

pub name_at-requires : goal.name_at-requires
name_at-requires c = (its_bytes c.args.book.now c.args.section c.requires.0 c.args.i c.requires.1).0

pub returns : goal.returns
returns c =
    let rule = get_or (rules_in c.args.book.now c.args.section) c.args.i no_rule in
    let named = c.name_at.ensures ∙ its_name c.args.book.now c.args.section c.requires.0 c.args.i c.requires.1 in
    (named, omega (arith, named, counted_bounds rule.place.segment (place_limits c.args.section.set_count rule (rule_fits_lem c.args.book.now c.args.section c.requires.0 c.args.i c.requires.1)).segment))
