-- `canonical::show::put_names` meets its contract. The loop's invariant: whoever writes the names left has written all. Assumes nothing.
use Rattle.ack.proofs.Adding.{Adding}
use Rattle.canonical.proofs.PutSets.{names_left}
use Rattle.canonical.proofs.show.put_names.Given as goal

abbrev pub invariant-loop-i : goal.invariant-loop-i
invariant-loop-i l = Adding (names_left l.key l.count 0) (names_left l.key l.count l.i) l.initial.out l.out
