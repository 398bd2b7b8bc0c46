-- `difference::section::put_new_rules` meets its contract. The loop's invariant: whoever writes the lines of the rules left has written all. Assumes nothing.
use Rattle.grade.specs.Standing.{rules_in}
use Rattle.ack.proofs.Adding.{Adding}
use Rattle.difference.specs.Difference.{spots, new_lines}
use Rattle.difference.specs.Sides.{held}
use Rattle.difference.proofs.Sections.{lines_left}
use Rattle.difference.proofs.section.put_new_rules.Given as goal

abbrev pub invariant-loop-i : goal.invariant-loop-i
invariant-loop-i l = Adding (lines_left (new_lines l.key (spots (rules_in l.old.book.now l.old.section)) (held l.key l.new)) l.new.section.rule_count 0) (lines_left (new_lines l.key (spots (rules_in l.old.book.now l.old.section)) (held l.key l.new)) l.new.section.rule_count l.i) l.initial.out l.out
