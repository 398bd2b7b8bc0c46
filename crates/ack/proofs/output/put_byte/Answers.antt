-- `ack::output::put_byte` meets its contract. Assumes nothing.
use mathlib.Core.Path.{sym}
use native.Mathlib.Omega.{arith}
use borrow.Author.Rules.{rules}
use lib.Seq.{set_out}
use Rattle.ack.specs.Splice.{splice}
use Rattle.ack.proofs.output.put_byte.Goals as goal

pub returns-then-at-out : goal.returns-then-at-out
unfolding splice
returns-then-at-out c = search rules

pub returns-else-at-out : goal.returns-else-at-out
unfolding splice
returns-else-at-out c = record { room = omega arith; holds = sym (set_out _ _ _ c.if-at-out.false); ends = search rules }
