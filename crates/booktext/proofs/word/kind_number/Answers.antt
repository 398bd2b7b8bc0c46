-- `booktext::word::kind_number` meets its contract: one name after the other. Assumes nothing.
use Rattle.booktext.proofs.Reading.{asked_kind}
use Rattle.booktext.proofs.word.kind_number.Goals as goal

pub returns : goal.returns
returns c =
    asked_kind _
    c.same_bytes-6.ensures
    c.same_bytes-4.ensures
    c.same_bytes-5.ensures
    c.same_bytes.ensures
    c.same_bytes-2.ensures
    c.same_bytes-3.ensures
    c.pick-4.ensures
    c.pick-all.ensures
    c.pick-3.ensures
    c.pick-later.ensures
    c.pick-2.ensures
    c.pick.ensures
