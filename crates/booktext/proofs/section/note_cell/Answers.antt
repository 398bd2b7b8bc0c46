-- `booktext::section::note_cell` meets its contract. Assumes nothing.
use mathlib.Core.Path.{subst, ◌∙◌}
use mathlib.Core.List.{List, [], ◌∷◌}
use Prim.Native.Nat.{◌+◌}
use Rattle.booktext.specs.Cells.{Cell}
use Rattle.booktext.specs.Standing.{noted, NotesMore}
use Rattle.booktext.proofs.Noting.{notes_one, notes_full}
use Rattle.booktext.proofs.Numbering.{all_length, all-set}
use Rattle.booktext.proofs.section.note_cell.Goals as goal

pub returns-then-count-ge-STATEMENT_LIMIT : goal.returns-then-count-ge-STATEMENT_LIMIT
returns-then-count-ge-STATEMENT_LIMIT g c = λ t m. notes_full t _ _ _ (all_length _ _ g.met.N.CellNumber.cells_are c.args.cells.now ∙ c.requires) c.if-count-ge-STATEMENT_LIMIT.true

pub returns : goal.returns
returns g c =
    let a = c.args in
    let it = g.N.CellNumber in
    let all = g.met.N.CellNumber.cells_are in
    let more = all-set _ _ all a.cells.now a.count a.cell in
    λ t m. subst (λ (cells : List Cell). NotesMore t (it.cells a.cells.now) a.count cells (a.count + 1) (noted t (it.cell a.cell) ∷ [])) more (notes_one t _ _ _ (all_length _ _ all a.cells.now ∙ c.requires) c.if-count-ge-STATEMENT_LIMIT.false m)
