-- `booktext::refer::is_there` meets its contract. Assumes nothing.
use Rattle.booktext.proofs.Referring.{there-found}
use Rattle.booktext.proofs.refer.is_there.Goals as goal

pub returns : goal.returns
returns c = there-found c.args.t.now c.seek_head.ensures
