-- `difference::difference::put_old_sections` meets its contract. The loop's invariant: whoever writes what became of the sections left has written all. Assumes nothing.
use mathlib.Core.List.{map}
use Rattle.grade.specs.Standing.{contents_at}
use Rattle.ack.proofs.Adding.{Adding}
use Rattle.difference.specs.Difference.{old_section}
use Rattle.difference.proofs.Sections.{sections_left}
use Rattle.difference.proofs.difference.put_old_sections.Given as goal

abbrev pub invariant-loop-start : goal.invariant-loop-start
invariant-loop-start l = Adding (sections_left (old_section (map (contents_at l.new) l.news)) l.old l.olds 0) (sections_left (old_section (map (contents_at l.new) l.news)) l.old l.olds l.start-index) l.initial.out l.out
