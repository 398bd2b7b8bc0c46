-- `booktext::rules::put_place` meets its contract. Assumes nothing.
use Rattle.booktext.proofs.Ruling.{place-written}
use Rattle.booktext.proofs.rules.put_place.Goals as goal

pub returns : goal.returns
returns c = place-written c.args.w.now c.requires c.place_in-place.ensures c.front.ensures c.put-second.ensures c.put_byte-third.ensures c.put_byte.ensures
