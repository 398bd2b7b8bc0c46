-- `booktext::before::stands_after` meets its contract: the cell tells verb, place and kind. Assumes nothing.
use Rattle.booktext.proofs.Preceding.{stands-is}
use Rattle.booktext.proofs.before.stands_after.Goals as goal

pub returns : goal.returns
returns c =
    let a = c.args in
    stands-is a.so a.cell a.spot c.is_rule.ensures c.says_of.ensures
