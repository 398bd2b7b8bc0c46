-- `legend::legend::put_rules` meets its contract. The invariant of its loop: whoever lists the rules of the cells left has listed all. Assumes nothing.
use Rattle.legend.proofs.Listing.{Listing}
use Rattle.legend.proofs.legend.put_rules.Given as goal

abbrev pub invariant-loop-i : goal.invariant-loop-i
invariant-loop-i l = Listing l.t l.key l.cells l.initial.out l.out l.n l.i
