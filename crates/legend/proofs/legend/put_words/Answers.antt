-- `legend::legend::put_words` meets its contract, by the invariant that stands beside this. Assumes nothing.
use Rattle.ack.proofs.Adding.{adding_more, adding_over}
use Rattle.booktext.proofs.Words.{words_fewer}
use Rattle.legend.proofs.Listing.{marked_more, marked-over}
use Rattle.legend.proofs.legend.put_words.Goals as goal

pub loop-w-init : goal.loop-w-init
loop-w-init c = λ after w. w

pub returns-then-w : goal.returns-then-w
returns-then-w c = adding_over c.loop-w.invariant (marked-over c.next_word-w.ensures c.if-w.true)

pub loop-w-smaller : goal.loop-w-smaller
loop-w-smaller c = words_fewer c.next_word-w.ensures c.if-w.false

pub loop-w-preserved : goal.loop-w-preserved
loop-w-preserved c = adding_more c.loop-w.invariant (marked_more c.next_word-w.ensures c.if-w.false c.part.ensures) c.put_field.ensures
