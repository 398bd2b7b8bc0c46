-- `line::kept::feed` meets its contract. Assumes nothing.
use native.Mathlib.Omega.{arith}
use Rattle.line.proofs.Feeding.{feeds_none, feeds_more, feeds_all}
use Rattle.line.proofs.kept.feed.Goals as goal

pub loop-byte-init : goal.loop-byte-init
loop-byte-init c = feeds_none

pub loop-byte-preserved : goal.loop-byte-preserved
loop-byte-preserved c = feeds_more _ _ (omega arith) c.loop-byte.invariant c.push-fed.ensures

pub returns : goal.returns
returns c = feeds_all _ (omega arith) c.loop-byte.invariant
