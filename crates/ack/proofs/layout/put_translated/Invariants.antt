-- `ack::layout::put_translated` meets its contract: after i turns the first i bytes of the text are stored. Assumes nothing.
use mathlib.Core.Path.{◌≡◌}
use lib.ListN.{length, take}
use Rattle.ack.specs.Splice.{splice}
use Rattle.ack.specs.Layout.{own}
use Rattle.ack.proofs.layout.put_translated.Given as goal

abbrev pub invariant-loop-i : goal.invariant-loop-i
invariant-loop-i l = (l.out ≡ splice l.initial.out l.at (take l.i (own l.d l.text))) × (length l.out ≡ length l.initial.out)
