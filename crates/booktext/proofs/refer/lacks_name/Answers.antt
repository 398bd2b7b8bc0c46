-- `booktext::refer::lacks_name` meets its contract: each way out is a case of `lacks`. Assumes nothing.
use mathlib.Core.Path.{refl}
use Rattle.booktext.proofs.Referring.{lacks_common, lacks-set, lacks-sets, lacks_no}
use Rattle.booktext.proofs.refer.lacks_name.Goals as goal

pub is_there-requires : goal.is_there-requires
is_there-requires c = (c.requires, refl)

pub returns-then-verb-eq-USE : goal.returns-then-verb-eq-USE
returns-then-verb-eq-USE c =
    let a = c.args in
    lacks_common a.t.now a.at c.verb_at-verb.ensures.0 c.if-verb-eq-USE.true c.word_of.ensures c.is_there.ensures

pub is_there-requires-then-names_set : goal.is_there-requires-then-names_set
is_there-requires-then-names_set c = (c.requires, refl)

pub returns-then-names_set : goal.returns-then-names_set
returns-then-names_set c =
    let a = c.args in
    lacks-set a.t.now a.at c.verb_at-verb.ensures.0 c.if-verb-eq-USE.false c.names_set.ensures c.if-names_set.true c.set_word.ensures c.word_of-then-names_set.ensures c.is_there-then-names_set.ensures

pub returns-then-verb-eq-SETS : goal.returns-then-verb-eq-SETS
returns-then-verb-eq-SETS c =
    let a = c.args in
    lacks-sets a.t.now a.at c.verb_at-verb.ensures.0 c.if-verb-eq-USE.false c.names_set.ensures c.if-names_set.false c.if-verb-eq-SETS.true _ c.skip_words.ensures c.are_sets.ensures

pub returns : goal.returns
returns c =
    let a = c.args in
    lacks_no a.t.now a.at c.verb_at-verb.ensures.0 c.if-verb-eq-USE.false c.names_set.ensures c.if-names_set.false c.if-verb-eq-SETS.false
