-- `grade::lookup::links_of` meets its contract, by the invariant that stands beside this. Assumes nothing.
use Prim.Native.Nat.{◌+◌, ◌-◌}
use mathlib.Core.Path.{refl, sym, ◌∙◌}
use native.Mathlib.Omega.{arith}
use lib.ListN.{get_or, set, length-set}
use Rattle.grade.specs.Limits.{name_places}
use Rattle.grade.specs.Standing.{rules_in}
use Rattle.grade.proofs.Holding.{rules-length}
use Rattle.grade.proofs.Linking.{linked-none, linked_more}
use Rattle.grade.proofs.lookup.links_of.Goals as goal

pub loop-i-init : goal.loop-i-init
loop-i-init c =
    let a = c.args in
    (c.requires, refl, linked-none (rules_in a.book.now a.section) a.section.rule_count (sym (rules-length a.book.now a.section c.requires)))

pub loop-i-preserved : goal.loop-i-preserved
loop-i-preserved c =
    let a = c.args in
    let l = c.loop-i in
    let name = c.from-name.result in
    let fits = c.name_of_rule.ensures in
    let few = l.invariant.0.few_rules in
    let behind = set l.links (name_places + (l.i - 1)) (get_or l.links name 0) in (
      l.invariant.0,
      length-set behind name (l.i - 1) ∙ length-set l.links (name_places + (l.i - 1)) (get_or l.links name 0) ∙ l.invariant.1,
      linked_more (rules_in a.book.now a.section) (l.i - 1) l.i name l.links (omega arith) (omega (arith, rules-length a.book.now a.section l.invariant.0)) (omega (arith, few)) (c.from-name.ensures ∙ fits.0) (omega (arith, c.from-name.ensures, fits.1)) l.invariant.2,
    )
