-- `hl7::place::note_fields` meets its contract. The invariant of its loop: with `at` stored, the parts before k are noted and the next begins there.
-- Assumes nothing.
use mathlib.Core.Path.{◌≡◌}
use Prim.Native.Nat.{◌+◌}
use lib.ListN.{length, set}
use Rattle.hl7.proofs.Noting.{Noting}
use Rattle.hl7.proofs.place.note_fields.Given as goal

abbrev pub invariant-loop-k : goal.invariant-loop-k
invariant-loop-k l = (length l.starts ≡ l.room + 1) × Noting l.d.bar l.seg l.initial.starts (set l.starts l.k l.at) l.k l.at
