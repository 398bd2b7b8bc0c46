-- `booktext::refer::names_set` meets its contract. Assumes nothing.
use Rattle.booktext.proofs.Referring.{names-is}
use Rattle.booktext.proofs.refer.names_set.Goals as goal

pub returns : goal.returns
returns c =
    let a = c.args in
    names-is a.t.now a.at c.verb_at-verb.ensures.0 c.is_rule.ensures c.is_codes.ensures c.word_of.ensures c.kind_number.ensures.0
