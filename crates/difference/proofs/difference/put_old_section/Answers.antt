-- `difference::difference::put_old_section` meets its contract. Assumes nothing.
use native.Mathlib.Omega.{arith}
use Rattle.hl7.proofs.Comparing.{all-at}
use Rattle.grade.specs.Standing.{stands_at}
use Rattle.canonical.proofs.PutBook.{section-key}
use Rattle.difference.proofs.Sections.{section_both, section_lone}
use Rattle.difference.proofs.difference.put_old_section.Goals as goal

pub text_part-key-requires : goal.text_part-key-requires
text_part-key-requires c = section-key c.args.old.now c.args.start c.requires.0

pub new-after-requires : goal.new-after-requires
new-after-requires c = all-at (stands_at c.args.new.now) c.args.news.now c.in-Some.i c.requires.1 c.in-Some.ensures.inside

pub returns-in-Some : goal.returns-in-Some
returns-in-Some c =
    let there = all-at (stands_at c.args.new.now) c.args.news.now c.in-Some.i c.requires.1 c.in-Some.ensures.inside in
    let before = c.new-before.ensures in
    let after = c.new-after.ensures in
    section_both c.args.old.now c.args.start c.requires.0 c.args.new.now c.args.news.now c.requires.1
    c.text_part-key.ensures c.in-Some.ensures.is c.in-Some.ensures.inside
    (rw (before.0, before.1) at c.new-before.result.sited) (rw (after.0, after.1) at c.new-after.result.sited) there (rw (before.0, after.0) at c.put_both.ensures)

pub returns-in-None : goal.returns-in-None
returns-in-None c =
    section_lone c.args.old.now c.args.start c.requires.0 c.args.new.now c.args.news.now c.requires.1
    c.text_part-key.ensures c.in-None.ensures.is (omega arith) c.put_lone.ensures
