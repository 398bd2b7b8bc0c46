-- `booktext::section::note_taken` meets its contract: each way out is a case of `taken`. Assumes nothing.
use Rattle.booktext.proofs.Noting.{notes_none, notes_as, taken_no, taken_none, taken-some}
use Rattle.booktext.proofs.section.note_taken.Goals as goal

pub returns-then-verb_at-ne-USE : goal.returns-then-verb_at-ne-USE
returns-then-verb_at-ne-USE g c =
    let a = c.args in
    notes_none a.t.now (g.N.CellNumber.cells a.cells.now) a.count (taken_no a.t.now a.at c.verb_at.ensures.0 c.if-verb_at-ne-USE.true)

pub returns-then-t-found : goal.returns-then-t-found
returns-then-t-found g c =
    let a = c.args in
    notes_none a.t.now (g.N.CellNumber.cells a.cells.now) a.count (taken_none a.t.now a.at c.verb_at.ensures.0 c.if-verb_at-ne-USE.false c.word_of.ensures c.seek_head-found.ensures c.if-t-found.true)

pub returns : goal.returns
returns g c =
    let a = c.args in
    notes_as a.t.now (g.N.CellNumber.cells a.cells.now) a.count _ _ _ c.note_block.ensures _ (taken-some a.t.now a.at c.verb_at.ensures.0 c.if-verb_at-ne-USE.false c.word_of.ensures c.seek_head-found.ensures c.if-t-found.false c.next_line.ensures c.word_of-2.ensures c.byte_at.ensures)
