-- `line::kept::feed` meets its contract. The invariant: so many first bytes of the chunk were fed. Assumes nothing.
use mathlib.Core.List.{List, ◌++◌}
use Prim.Native.Nat.{ℕ}
use lib.ListN.{take}
use Rattle.line.specs.Fed.{Fed}
use Rattle.line.proofs.kept.feed.Given as goal

abbrev pub invariant-loop-byte : goal.invariant-loop-byte
invariant-loop-byte l = (input : List ℕ) → Fed input l.initial.fed → Fed (input ++ take l.byte-index l.chunk) l.fed
