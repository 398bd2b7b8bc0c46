-- `hl7::cut::pass_clear` meets its contract. The invariant of its loop: the part that begins at `from` ends where one that began at `at` would.
-- Assumes nothing.
use mathlib.Core.Path.{◌≡◌}
use lib.ListN.{drop}
use Rattle.std.specs.Slice.Iter.{chunks_exact_rest, chunks_exact_size}
use Rattle.hl7.specs.Cut.{end_from}
use Rattle.hl7.proofs.cut.pass_clear.Given as goal

abbrev pub invariant-loop-block : goal.invariant-loop-block
invariant-loop-block l = (chunks_exact_rest l.block-iterator ≡ drop l.at l.s) × (chunks_exact_size l.block-iterator ≡ 16) × (end_from l.d l.s l.from ≡ end_from l.d l.s l.at)
