-- `write::weigh` meets its contract: each turn weighs one record. Assumes nothing.
use Rattle.std.proofs.Common.{sym, arith, ◌∙◌}
use Rattle.ack.proofs.Recording.{weigh_one, weigh_none}
use Rattle.ack.proofs.write.weigh.Goals as goal

pub loop-finding-preserved : goal.loop-finding-preserved
loop-finding-preserved c =
    let l = c.loop-finding in
    rw c.weighed-weight.ensures (sym (weigh_one c.args.records.now l.finding-index l.weight (omega arith)) ∙ l.invariant)

pub returns : goal.returns
returns c =
    let l = c.loop-finding in
    sym (weigh_none c.args.records.now l.finding-index l.weight (omega arith)) ∙ l.invariant
