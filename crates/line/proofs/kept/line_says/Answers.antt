-- `line::kept::line_says` meets its contract. Assumes nothing.
use mathlib.Core.Path.{refl}
use Rattle.line.proofs.Feeding.{said_unspaced, said_bad, said_good}
use Rattle.line.proofs.kept.line_says.Goals as goal

pub returns-in_err-stamp : goal.returns-in_err-stamp
returns-in_err-stamp c input f = rw c.from_residual.ensures (said_unspaced f c.in_err-stamp.was)

pub returns-then-state-number : goal.returns-then-state-number
returns-then-state-number c input f = said_good f c.in_ok-stamp.was c.if-state-number.true refl

pub returns : goal.returns
returns c input f = said_bad f c.in_ok-stamp.was c.if-state-number.false refl
