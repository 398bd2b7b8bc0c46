-- `booktext::word::change_of` meets its contract: one name after the other. Assumes nothing.
use Rattle.booktext.proofs.Reading.{asked_change}
use Rattle.booktext.proofs.word.change_of.Goals as goal

pub returns : goal.returns
returns c =
    asked_change _
    c.same_bytes-5.ensures
    c.same_bytes-3.ensures
    c.same_bytes-4.ensures
    c.same_bytes.ensures
    c.same_bytes-2.ensures
    c.pick-3.ensures
    c.pick-rules.ensures
    c.pick-2.ensures
    c.pick-codes.ensures
    c.pick.ensures
