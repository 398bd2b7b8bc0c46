-- `booktext::names::Names::note_code` meets its contract. Assumes nothing.
use Rattle.booktext.proofs.Naming.{code_noted, no_code}
use Rattle.booktext.proofs.names.Names.note_code.Goals as goal

pub returns-then-asks_code : goal.returns-then-asks_code
returns-then-asks_code c = code_noted _ _ _ c.asks_code.ensures _ c.if-asks_code.true c.bound_at.ensures c.next_word.ensures c.note.ensures

pub returns : goal.returns
returns c = no_code _ _ _ c.asks_code.ensures c.if-asks_code.false
