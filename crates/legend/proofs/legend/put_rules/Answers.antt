-- `legend::legend::put_rules` meets its contract, by the invariant that stands beside this. Assumes nothing.
use native.Mathlib.Omega.{arith}
use Rattle.legend.proofs.Listing.{listing_none, listing_more, listing_over}
use Rattle.legend.proofs.legend.put_rules.Goals as goal

pub put_made-requires : goal.put_made-requires
put_made-requires c = (c.requires.0, omega arith)

pub number_after-n-requires : goal.number_after-n-requires
number_after-n-requires c = (omega (arith, c.loop-i.invariant.few), omega arith)

pub loop-i-preserved : goal.loop-i-preserved
loop-i-preserved c = listing_more c.loop-i.invariant c.requires.0 (omega arith) c.put_made.ensures c.number_after-n.ensures

pub returns : goal.returns
returns c = listing_over c.loop-i.invariant (omega arith)

pub loop-i-init : goal.loop-i-init
loop-i-init c = listing_none _ _ _ _
