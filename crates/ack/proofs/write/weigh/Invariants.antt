-- `write::weigh` meets its contract: the weight with the records from i on is the weight of all. Assumes nothing.
use Rattle.std.proofs.Common.{◌≡◌, drop}
use Rattle.ack.specs.Weights.{weightless, weigh_all}
use Rattle.ack.proofs.write.weigh.Given as goal

abbrev pub invariant-loop-finding : goal.invariant-loop-finding
invariant-loop-finding l = weigh_all l.weight (drop l.finding-index l.records) ≡ weigh_all weightless l.records
