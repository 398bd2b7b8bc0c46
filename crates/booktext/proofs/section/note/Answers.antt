-- `booktext::section::note` meets its contract. Assumes nothing.
use mathlib.Core.Path.{ap}
use mathlib.Core.List.{[], ◌∷◌}
use Rattle.booktext.specs.Lines.{Statement}
use Rattle.booktext.proofs.Noting.{notes_as}
use Rattle.booktext.proofs.section.note.Goals as goal

pub returns : goal.returns
returns g c =
    let cell = c.cell_at.ensures in
    notes_as _ _ _ _ _ _ (c.note_cell.ensures c.args.t.now cell.1) _ (ap (λ (s : Statement). s ∷ []) cell.0)
