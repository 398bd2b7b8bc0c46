-- `booktext::names::Names::note_sets` meets its contract. Assumes nothing.
use Rattle.booktext.proofs.Naming.{sets-noted, no_sets}
use Rattle.booktext.proofs.names.Names.note_sets.Goals as goal

pub returns-then-verb_at-eq-SETS : goal.returns-then-verb_at-eq-SETS
returns-then-verb_at-eq-SETS c = sets-noted _ _ _ c.verb_at.ensures.0 _ c.if-verb_at-eq-SETS.true c.skip_words.ensures c.note_words.ensures

pub returns : goal.returns
returns c = no_sets _ _ _ c.verb_at.ensures.0 c.if-verb_at-eq-SETS.false
