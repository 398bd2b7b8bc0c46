-- `booktext::word::place_in` meets its contract. Assumes nothing.
use Rattle.booktext.proofs.Reading.{place-pointed, place-whole}
use Rattle.booktext.proofs.word.place_in.Goals as goal

pub returns-then-point-numbers : goal.returns-then-point-numbers
returns-then-point-numbers c =
    place-pointed _ c.after-numbers.ensures c.find-point.ensures c.front.ensures c.number_in-field.ensures
    c.byte_at.ensures c.byte_at-2.ensures c.byte_at-3.ensures c.name_of_letters-segment.ensures.0
    c.if-point-numbers.true c.after.ensures c.number_in.ensures

pub returns : goal.returns
returns c =
    place-whole _ c.after-numbers.ensures c.find-point.ensures c.front.ensures c.number_in-field.ensures
    c.byte_at.ensures c.byte_at-2.ensures c.byte_at-3.ensures c.name_of_letters-segment.ensures.0
    c.if-point-numbers.false
