-- `legend::legend::put_changes` meets its contract. The invariant of its loop: whoever writes what the cells left remark has written all. Assumes nothing.
use mathlib.Core.List.{map}
use lib.ListN.{drop}
use Rattle.booktext.specs.Standing.{noted}
use Rattle.ack.proofs.Adding.{Adding}
use Rattle.legend.specs.Legend.{later_remarks}
use Rattle.legend.proofs.legend.put_changes.Given as goal

abbrev pub invariant-loop-cell : goal.invariant-loop-cell
invariant-loop-cell l = Adding (later_remarks l.t l.spot (map (noted l.t) l.cells)) (later_remarks l.t l.spot (map (noted l.t) (drop l.cell-index l.cells))) l.initial.out l.out
