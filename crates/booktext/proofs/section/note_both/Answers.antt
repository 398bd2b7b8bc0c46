-- `booktext::section::note_both` meets its contract. Assumes nothing.
use Rattle.booktext.proofs.Noting.{notes_then}
use Rattle.booktext.proofs.section.note_both.Goals as goal

pub returns : goal.returns
returns g c =
    let a = c.args in
    notes_then a.t.now (g.N.CellNumber.cells a.cells.now) a.count _ _ _ c.note-next.ensures _ _ _ c.note_taken.ensures
