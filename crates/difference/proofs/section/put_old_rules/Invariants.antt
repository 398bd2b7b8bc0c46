-- `difference::section::put_old_rules` meets its contract. The loop's invariant: whoever writes the lines of the rules left has written all. Assumes nothing.
use Rattle.ack.proofs.Adding.{Adding}
use Rattle.difference.specs.Difference.{old_lines}
use Rattle.difference.specs.Sides.{held}
use Rattle.difference.proofs.Sections.{lines_left}
use Rattle.difference.proofs.section.put_old_rules.Given as goal

abbrev pub invariant-loop-i : goal.invariant-loop-i
invariant-loop-i l = Adding (lines_left (old_lines (held l.key l.old) (held l.key l.new)) l.old.section.rule_count 0) (lines_left (old_lines (held l.key l.old) (held l.key l.new)) l.old.section.rule_count l.i) l.initial.out l.out
