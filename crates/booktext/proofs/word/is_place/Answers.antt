-- `booktext::word::is_place` meets its contract. Assumes nothing.
use Rattle.booktext.proofs.Reading.{asked_place}
use Rattle.booktext.proofs.word.is_place.Goals as goal

pub returns : goal.returns
returns c = asked_place _ c.after-numbers.ensures c.find.ensures c.place_in-place.ensures c.byte_at.ensures c.place_fits.ensures
