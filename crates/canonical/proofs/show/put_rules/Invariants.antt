-- `canonical::show::put_rules` meets its contract. The loop's invariant: whoever writes the rules left, by what is noted of those before, has written all. Assumes nothing.
use mathlib.Core.List.{[]}
use Rattle.grade.specs.Standing.{rules_in}
use Rattle.ack.proofs.Adding.{Adding}
use Rattle.canonical.specs.Shown.{printed, rule_lines}
use Rattle.canonical.proofs.PutRules.{rules_from}
use Rattle.canonical.proofs.show.put_rules.Given as goal

abbrev pub invariant-loop-i : goal.invariant-loop-i
invariant-loop-i l = Adding (printed (rule_lines l.key [] (rules_in l.book l.section))) (rules_from (rules_in l.book l.section) l.i l.spots l.key) l.initial.out l.out
