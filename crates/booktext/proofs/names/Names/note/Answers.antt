-- `booktext::names::Names::note` meets its contract. Assumes nothing.
use mathlib.Core.Path.{refl}
use borrow.Author.Rules.{rules}
use Rattle.booktext.proofs.Naming.{note_old, note_full, note_new}
use Rattle.booktext.proofs.names.Names.note.Goals as goal

pub returns-then-number_of-ne0 : goal.returns-then-number_of-ne0
returns-then-number_of-ne0 c = note_old _ _ c.args.name c.part.ensures c.number_of.ensures.0 c.if-number_of-ne0.true

pub returns-then-self-ge-SET_LIMIT : goal.returns-then-self-ge-SET_LIMIT
returns-then-self-ge-SET_LIMIT c = note_full _ _ c.args.name c.part.ensures c.number_of.ensures.0 c.if-number_of-ne0.false (search rules) c.if-self-ge-SET_LIMIT.true

pub returns : goal.returns
returns c = note_new _ _ c.args.name c.part.ensures c.number_of.ensures.0 c.if-number_of-ne0.false (search rules) c.if-self-ge-SET_LIMIT.false _ refl refl
