-- `canonical::show::put_section` meets its contract. Assumes nothing.
use mathlib.Core.Path.{refl}
use Rattle.canonical.proofs.PutBook.{section-key, section-holds, section-written}
use Rattle.canonical.proofs.show.put_section.Goals as goal

pub site_at-section-requires : goal.site_at-section-requires
site_at-section-requires c = c.requires.0

pub text_part-key-requires : goal.text_part-key-requires
text_part-key-requires c = section-key c.args.book.now c.args.start c.requires.0

pub put_sets-requires : goal.put_sets-requires
put_sets-requires c = section-holds c.args.book.now c.args.start c.requires.0 c.site_at-section.ensures

pub put_rules-requires : goal.put_rules-requires
put_rules-requires c = (section-holds c.args.book.now c.args.start c.requires.0 c.site_at-section.ensures, c.requires.1)

pub returns : goal.returns
returns c =
    section-written c.args.book.now c.args.start c.requires.0 c.site_at-section.ensures c.text_part-key.ensures refl
    c.put_sets.ensures c.put.ensures c.put-2.ensures c.put_byte.ensures c.put_pin.ensures c.put_rules.ensures
