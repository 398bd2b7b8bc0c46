-- `ack::measure::name_length` meets its contract. Assumes nothing.
use mathlib.Core.Path.{ap}
use lib.Dec.{lit≤}
use lib.ListN.{length}
use Rattle.ack.proofs.Lines.{name-none, name-some}
use Rattle.ack.proofs.measure.name_length.Goals as goal

pub returns-then-letters_of-eq0 : goal.returns-then-letters_of-eq0
returns-then-letters_of-eq0 c = (ap length (name-none _ c.letters_of.ensures.0 c.if-letters_of-eq0.true), lit≤ tt)

pub returns-else-letters_of-eq0 : goal.returns-else-letters_of-eq0
returns-else-letters_of-eq0 c = (ap length (name-some _ c.letters_of.ensures.0 c.if-letters_of-eq0.false), lit≤ tt)
