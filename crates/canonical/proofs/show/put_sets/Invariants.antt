-- `canonical::show::put_sets` meets its contract. The loop's invariant: whoever writes the sets left has written all. Assumes nothing.
use mathlib.Core.List.{List}
use Prim.Native.Nat.{ℕ}
use Rattle.ack.proofs.Adding.{Adding}
use Rattle.canonical.proofs.PutSets.{SetsAt, sets_from}
use Rattle.canonical.proofs.show.put_sets.Given as goal

abbrev pub invariant-loop-i : goal.invariant-loop-i
invariant-loop-i l = (sets : List (List (List ℕ))) → SetsAt l.book l.place-items sets → Adding (sets_from l.key sets 0) (sets_from l.key sets l.i) l.initial.out l.out
