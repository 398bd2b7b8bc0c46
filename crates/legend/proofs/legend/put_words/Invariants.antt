-- `legend::legend::put_words` meets its contract. The invariant of its loop: whoever writes the words left has written all. Assumes nothing.
use lib.ListN.{length}
use Rattle.ack.specs.Layout.{marked}
use Rattle.booktext.specs.Standing.{words_from}
use Rattle.ack.proofs.Adding.{Adding}
use Rattle.legend.proofs.legend.put_words.Given as goal

abbrev pub invariant-loop-w : goal.invariant-loop-w
invariant-loop-w l = Adding (marked 32 (words_from l.t l.from)) (marked 32 (words_from l.t l.i)) l.initial.out l.out

abbrev pub decreases-loop-w : goal.decreases-loop-w
decreases-loop-w l = length (words_from l.t l.i)
