-- `ack::errs::put_each` meets its contract: the ERRs of the findings so far are written. Assumes nothing.
use lib.ListN.{take}
use Rattle.ack.specs.Pieces.{errs}
use Rattle.ack.specs.Output.{Adds}
use Rattle.ack.proofs.errs.put_each.Given as goal

abbrev pub invariant-loop-finding : goal.invariant-loop-finding
invariant-loop-finding l = Adds l.initial.out (errs l.d (take l.finding-index l.findings)) l.out
