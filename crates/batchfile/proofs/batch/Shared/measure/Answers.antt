-- `batchfile::batch::Shared::measure` meets its contract: with no room at all, the answer tells the length. Assumes nothing.
use mathlib.Core.Path.{sym, subst}
use Rattle.batchfile.specs.Sized.{Measures}
use Rattle.batchfile.proofs.Measuring.{measures}
use Rattle.batchfile.proofs.batch.Shared.measure.Goals as goal

pub returns : goal.returns
returns c = subst (Measures _ _ _ _) (sym c.measured_by.ensures) (measures _ _ _ _ _ _ c.answer_indexed-given.ensures)
