-- `difference::section::put_both` meets its contract. Assumes nothing.
use Rattle.canonical.proofs.PutBook.{section-holds}
use Rattle.difference.proofs.Sections.{both_written}
use Rattle.difference.proofs.section.put_both.Goals as goal

pub returns : goal.returns
returns c =
    let old = c.args.old.now in
    let new = c.args.new.now in
    both_written c.args.key.now old.book.now old.section new.book.now new.section
    (section-holds old.book.now old.start old.stands old.sited) (section-holds new.book.now new.start new.stands new.sited)
    c.put_old_rules.ensures c.put_new_rules.ensures
