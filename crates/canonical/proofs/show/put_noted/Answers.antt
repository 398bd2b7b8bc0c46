-- `canonical::show::put_noted` meets its contract. Assumes nothing.
use mathlib.Core.Path.{sym}
use native.Mathlib.Omega.{arith}
use lib.Seq.{length-take-le}
use Rattle.grade.specs.Standing.{rules_in}
use Rattle.ack.proofs.Adding.{adds_as}
use Rattle.canonical.proofs.PutRules.{line-noted, spot-noted}
use Rattle.canonical.proofs.show.put_noted.Goals as goal

pub rule_at-rule-requires : goal.rule_at-rule-requires
rule_at-rule-requires c = (c.requires.0, c.requires.1)

pub slice_bounds-is_in-end-2 : goal.slice_bounds-is_in-end-2
slice_bounds-is_in-end-2 c = sym (length-take-le c.args.i c.args.spots.now (omega (arith, c.requires.2)))

pub returns : goal.returns
returns c =
    let rules = rules_in c.args.book.now c.args.section in
    let line = line-noted rules c.args.i c.args.spots.now c.args.key.now c.rule_at-rule.ensures c.spot_of-spot.ensures c.is_in-again.ensures in
    (adds_as c.put_rule.ensures line, spot-noted rules c.args.i c.args.spots.now c.rule_at-rule.ensures c.spot_of-spot.ensures)
