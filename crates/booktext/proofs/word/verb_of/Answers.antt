-- `booktext::word::verb_of` meets its contract: one name after the other. Assumes nothing.
use Rattle.booktext.proofs.Reading.{asked_verb}
use Rattle.booktext.proofs.word.verb_of.Goals as goal

pub returns : goal.returns
returns c =
    asked_verb _
    c.same_bytes-8.ensures
    c.same_bytes-9.ensures
    c.same_bytes-6.ensures
    c.same_bytes-7.ensures
    c.same_bytes-3.ensures
    c.same_bytes-4.ensures
    c.same_bytes-5.ensures
    c.same_bytes.ensures
    c.same_bytes-2.ensures
    c.pick-6.ensures
    c.pick-5.ensures
    c.pick-heads.ensures
    c.pick-4.ensures
    c.pick-inner.ensures
    c.pick-3.ensures
    c.pick-2.ensures
    c.pick-later.ensures
    c.pick.ensures
    c.change_of.ensures
