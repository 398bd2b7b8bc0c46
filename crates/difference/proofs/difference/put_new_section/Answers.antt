-- `difference::difference::put_new_section` meets its contract. Assumes nothing.
use native.Mathlib.Omega.{arith}
use Rattle.ack.proofs.Adding.{adds_none}
use Rattle.canonical.proofs.PutBook.{section-key}
use Rattle.difference.proofs.Sections.{section-known, section_come}
use Rattle.difference.proofs.difference.put_new_section.Goals as goal

pub text_part-key-requires : goal.text_part-key-requires
text_part-key-requires c = section-key c.args.new.now c.args.start c.requires.1

pub returns-in-Some : goal.returns-in-Some
returns-in-Some c =
    adds_none _
    (section-known c.args.old.now c.args.olds.now c.requires.0 c.args.new.now c.args.start c.requires.1 c.text_part-key.ensures c.in-Some.ensures.is c.in-Some.ensures.inside)

pub returns-in-None : goal.returns-in-None
returns-in-None c =
    section_come c.args.old.now c.args.olds.now c.requires.0 c.args.new.now c.args.start c.requires.1
    c.text_part-key.ensures c.in-None.ensures.is (omega arith) c.put_lone.ensures
