-- `grade::sheet::note` meets its contract. Assumes nothing.
use Rattle.std.proofs.lemmas.List.{take_more_set}
use Rattle.grade.proofs.sheet.note.Goals as goal

pub returns-then-not-whole : goal.returns-then-not-whole
returns-then-not-whole c = λ e. take_more_set _ _ _ (c.requires e)
