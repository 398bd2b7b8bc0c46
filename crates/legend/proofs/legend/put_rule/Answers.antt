-- `legend::legend::put_rule` meets its contract. Assumes nothing.
use Rattle.legend.proofs.Listing.{rule-listed}
use Rattle.legend.proofs.legend.put_rule.Goals as goal

pub returns : goal.returns
returns c = rule-listed c.args.t.now c.args.key.now c.args.cell c.args.n _ c.put.ensures c.put_number.ensures c.word_of.ensures c.put_field.ensures c.word_of-2.ensures c.put_field-2.ensures c.put_byte.ensures c.letter_of.ensures c.put_byte-2.ensures (c.bound_at.ensures c.requires) c.put_words.ensures
