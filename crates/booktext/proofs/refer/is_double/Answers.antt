-- `booktext::refer::is_double` meets its contract. Assumes nothing.
use mathlib.Core.Path.{sym, ◌∙◌}
use Rattle.booktext.proofs.Referring.{double_is, double_head}
use Rattle.booktext.proofs.refer.is_double.Goals as goal

pub seek_head-requires : goal.seek_head-requires
seek_head-requires c = (c.requires, sym c.is_within.ensures ∙ c.if-is_within.true)

pub returns-then-is_within : goal.returns-then-is_within
returns-then-is_within c =
    let a = c.args in
    double_head a.t.now a.at c.verb_at-verb.ensures.0 c.is_within.ensures c.if-is_within.true c.word_of.ensures c.seek_head.ensures c.found_at.ensures

pub returns : goal.returns
returns c =
    let a = c.args in
    double_is a.t.now a.at c.verb_at-verb.ensures.0 c.is_within.ensures c.if-is_within.false
