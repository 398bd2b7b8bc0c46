-- `booktext::names::Names::note_words` meets its contract, by the invariant that stands beside this. Assumes nothing.
use mathlib.Core.List.{[], ◌∷◌}
use Rattle.booktext.proofs.names.Names.note_words.Goals as goal
use Rattle.booktext.proofs.Naming.{words_noted, words_past, names_on}

pub returns-then-w : goal.returns-then-w
returns-then-w c = words_noted _ _ _ c.loop-w.invariant (c.next_word-w.ensures.none c.if-w.true)

pub returns-then-not-note : goal.returns-then-not-note
returns-then-not-note c = words_past _ _ _ c.loop-w.invariant (_ ∷ []) _ (c.next_word-w.ensures.some c.if-w.false) c.note.ensures c.if-not-note.true

pub loop-w-preserved : goal.loop-w-preserved
loop-w-preserved c = names_on _ c.loop-w.invariant (_ ∷ []) _ (c.next_word-w.ensures.some c.if-w.false) c.note.ensures c.if-not-note.false
