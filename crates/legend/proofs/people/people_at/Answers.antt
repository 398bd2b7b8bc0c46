-- `legend::people::people_at` meets its contract. Assumes nothing.
use Rattle.legend.proofs.Trimming.{people-are}
use Rattle.legend.proofs.people.people_at.Goals as goal

pub returns : goal.returns
returns c = people-are c.args.t.now c.args.at c.after-rest.ensures c.find_far.ensures c.front-line.ensures c.find_far-2.ensures c.after.ensures c.after-2.ensures c.trim.ensures
