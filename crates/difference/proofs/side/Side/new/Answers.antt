-- `difference::side::Side::new` meets its contract. Assumes nothing.
use Rattle.canonical.proofs.PutBook.{section-holds}
use Rattle.difference.proofs.side.Side.new.Goals as goal

pub sets_of-requires : goal.sets_of-requires
sets_of-requires c = section-holds c.args.book.now c.args.start c.requires c.site_at-section.ensures

pub spots_of-requires : goal.spots_of-requires
spots_of-requires c = section-holds c.args.book.now c.args.start c.requires c.site_at-section.ensures
