-- `ack::errs::put_each` meets its contract, by the invariant that stands beside this. Assumes nothing.
use native.Mathlib.Omega.{arith}
use mathlib.Core.Path.{ap}
use lib.Seq.{take_all}
use Rattle.ack.specs.Pieces.{errs}
use Rattle.ack.proofs.Adding.{adds_as}
use Rattle.ack.proofs.Listing.{errs-begun, errs_more}
use Rattle.ack.proofs.errs.put_each.Goals as goal

pub loop-finding-init : goal.loop-finding-init
loop-finding-init c = errs-begun c.args.d c.args.findings.now _

pub loop-finding-preserved : goal.loop-finding-preserved
loop-finding-preserved c = errs_more c.args.d c.args.findings.now c.loop-finding.finding-index _ c.loop-finding-test.true c.loop-finding.invariant c.put_finding.ensures

pub returns : goal.returns
returns c =
    adds_as c.loop-finding.invariant (ap (errs c.args.d) (take_all c.loop-finding.finding-index c.args.findings.now (omega arith)))
