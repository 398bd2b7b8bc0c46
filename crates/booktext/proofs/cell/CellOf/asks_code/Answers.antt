-- `booktext::cell::CellOf::asks_code` meets its contract. Assumes nothing.
use Rattle.booktext.proofs.Numbering.{asks_here}
use Rattle.booktext.proofs.cell.CellOf.asks_code.Goals as goal

pub returns : goal.returns
returns g c = asks_here _ _ g.met.N.CellNumber.cell_is _ c.args.self c.get-line.ensures c.verb_at.ensures.0 c.is_rule.ensures c.word_of.ensures c.kind_number.ensures.0
