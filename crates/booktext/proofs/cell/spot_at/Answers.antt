-- `booktext::cell::spot_at` meets its contract. Assumes nothing.
use mathlib.Core.Path.{ap}
use mathlib.Core.Bool.{not}
use native.Mathlib.Omega.{arith}
use Rattle.booktext.proofs.Marking.{spot-none, spot_is}
use Rattle.booktext.proofs.cell.spot_at.Goals as goal

pub returns-then-not-is_placed : goal.returns-then-not-is_placed
returns-then-not-is_placed c = (spot-none _ _ c.verb_at.ensures.0 c.is_placed.ensures (ap not c.if-not-is_placed.true), omega arith)

pub returns : goal.returns
returns c = (spot_is _ _ c.verb_at.ensures.0 c.is_placed.ensures (ap not c.if-not-is_placed.false) c.word_of.ensures c.place_in-place.ensures c.word_of-2.ensures c.kind_number-kind.ensures.0 c.spot_number.ensures.0, c.spot_number.ensures.1)
