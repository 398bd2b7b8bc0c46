-- `booktext::before::lists_code` meets its contract: a code line lists the words after its verb. Assumes nothing.
use Rattle.booktext.proofs.Preceding.{listed_code, listed-none}
use Rattle.booktext.proofs.before.lists_code.Goals as goal

pub returns-then-verb_at-eq-CODE : goal.returns-then-verb_at-eq-CODE
returns-then-verb_at-eq-CODE c =
    let a = c.args in
    listed_code a.t.now a.code.now a.at c.verb_at.ensures.0 c.if-verb_at-eq-CODE.true c.skip_words.result c.skip_words.ensures c.has_word.ensures

pub returns : goal.returns
returns c =
    let a = c.args in
    listed-none a.t.now a.code.now a.at c.verb_at.ensures.0 c.if-verb_at-eq-CODE.false
