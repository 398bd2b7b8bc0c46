-- `booktext::refer::is_first` meets its contract. Assumes nothing.
use Rattle.booktext.specs.Standing.{left}
use Rattle.booktext.proofs.Referring.{first_found}
use Rattle.booktext.proofs.refer.is_first.Goals as goal

pub returns : goal.returns
returns c =
    let a = c.args in
    first_found a.t.now (left a.t.now a.start) a.at c.verb_at.ensures.0 c.word_of.ensures c.seek.ensures c.found_at.ensures
