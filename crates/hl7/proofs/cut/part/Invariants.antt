-- `hl7::cut::part` meets its contract. The invariant of its loop: the piece asked for is as many pieces after the one that begins at `start` as there are turns left.
-- Assumes nothing.
use mathlib.Core.Path.{◌≡◌}
use Prim.Native.Nat.{◌-◌, ◌≤◌}
use lib.ListN.{length}
use Rattle.hl7.specs.Cut.{cut, piece_at}
use Rattle.hl7.specs.Spans.{piece_from}
use Rattle.hl7.proofs.cut.part.Given as goal

abbrev pub invariant-loop : goal.invariant-loop
invariant-loop l = (l.start ≤ length l.s) × (piece_at (cut l.d l.s) l.k ≡ piece_from l.d l.s l.start (l.end - l.counter))
