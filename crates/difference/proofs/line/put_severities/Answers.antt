-- `difference::line::put_severities` meets its contract. Assumes nothing.
use mathlib.Core.Path.{◌≡◌, refl, ap}
use Rattle.std.proofs.Common.{rules}
use Rattle.grade.specs.Rule.{severity_letter}
use Rattle.ack.proofs.Adding.{adds_none}
use Rattle.difference.proofs.Lining.{letters_differ, severity_same, severity_other}
use Rattle.difference.proofs.line.put_severities.Goals as goal

pub returns-then-eq : goal.returns-then-eq
returns-then-eq c =
    let same : c.args.rule.severity ≡ c.args.other.severity = search rules in
    adds_none _ (severity_same c.args.key.now c.args.n c.args.rule c.args.other refl refl (ap severity_letter same))

pub returns : goal.returns
returns c =
    let other : c.args.rule.severity ≡ c.args.other.severity → ⊥ = search rules in
    severity_other c.args.key.now c.args.n c.args.rule c.args.other refl refl (letters_differ c.args.rule.severity c.args.other.severity other)
    c.put_head.ensures c.put_severity.ensures c.put.ensures c.put_severity-2.ensures c.put_byte.ensures
