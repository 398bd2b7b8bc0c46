-- `canonical::show::put_verb` meets its contract. Assumes nothing.
use Rattle.canonical.proofs.show.put_verb.Goals as goal

pub returns-then-again : goal.returns-then-again
returns-then-again c = rw c.if-again.true c.put.ensures

pub returns-else-again : goal.returns-else-again
returns-else-again c = rw c.if-again.false c.put-else-again.ensures
