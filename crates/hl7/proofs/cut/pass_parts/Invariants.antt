-- `hl7::cut::pass_parts` meets its contract. The invariant of its loop: the piece asked for is piece `left.parts` of what begins at `left.at`.
-- Assumes nothing.
use mathlib.Core.Path.{◌≡◌}
use Prim.Native.Nat.{◌≤◌}
use lib.ListN.{length, drop}
use Rattle.std.specs.Slice.Iter.{chunks_exact_rest, chunks_exact_size}
use Rattle.hl7.specs.Cut.{cut, piece_at}
use Rattle.hl7.specs.Spans.{piece_from}
use Rattle.hl7.proofs.cut.pass_parts.Given as goal

abbrev pub invariant-loop-block : goal.invariant-loop-block
invariant-loop-block l =
    (chunks_exact_rest l.block-iterator ≡ drop l.left.at l.s)
    × (chunks_exact_size l.block-iterator ≡ 64)
    × (l.left.at ≤ length l.s)
    × (piece_at (cut l.d l.s) l.k ≡ piece_from l.d l.s l.left.at l.left.parts)
