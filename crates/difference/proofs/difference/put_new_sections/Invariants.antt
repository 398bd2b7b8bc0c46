-- `difference::difference::put_new_sections` meets its contract. The loop's invariant: whoever writes those of the sections left that are new has written all. Assumes nothing.
use mathlib.Core.List.{map}
use Rattle.grade.specs.Standing.{contents_at}
use Rattle.ack.proofs.Adding.{Adding}
use Rattle.difference.specs.Difference.{new_section}
use Rattle.difference.proofs.Sections.{sections_left}
use Rattle.difference.proofs.difference.put_new_sections.Given as goal

abbrev pub invariant-loop-start : goal.invariant-loop-start
invariant-loop-start l = Adding (sections_left (new_section (map (contents_at l.old) l.olds)) l.new l.news 0) (sections_left (new_section (map (contents_at l.old) l.olds)) l.new l.news l.start-index) l.initial.out l.out
