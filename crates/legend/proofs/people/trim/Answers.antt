-- `legend::people::trim` meets its contract. Assumes nothing.
use Rattle.legend.proofs.Trimming.{trims}
use Rattle.legend.proofs.people.trim.Goals as goal

pub returns : goal.returns
returns c = trims c.args.s.now c.past_blanks.ensures c.after-led.ensures c.dark_end.ensures c.front.ensures
