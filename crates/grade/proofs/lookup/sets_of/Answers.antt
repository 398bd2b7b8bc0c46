-- `grade::lookup::sets_of` meets its contract: the section's sets stand where `Holds` says. Assumes nothing.
use mathlib.Core.Path.{ap}
use Rattle.grade.specs.Reader.{is_found}
use Rattle.grade.proofs.Holding.{sets_read_lem}
use Rattle.grade.proofs.lookup.sets_of.Goals as goal

pub note_sets-requires : goal.note_sets-requires
note_sets-requires c = rw c.from.ensures (ap is_found (sets_read_lem c.args.book.now c.args.section c.requires), c.requires.few_sets)

pub returns : goal.returns
returns c = rw c.from.ensures at c.note_sets.ensures
