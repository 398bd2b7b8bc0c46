-- `canonical::show::put_sections` meets its contract. The loop's invariant: whoever writes the sections left has written all. Assumes nothing.
use Rattle.ack.proofs.Adding.{Adding}
use Rattle.canonical.proofs.PutBook.{sections_from}
use Rattle.canonical.proofs.show.put_sections.Given as goal

abbrev pub invariant-loop-start : goal.invariant-loop-start
invariant-loop-start l = Adding (sections_from l.book l.starts 0) (sections_from l.book l.starts l.start-index) l.initial.out l.out
