-- `booktext::compile::make_named` meets its contract. Assumes nothing.
use mathlib.Core.Path.{refl}
use Rattle.booktext.proofs.Telling.{row-some, handed-as}
use Rattle.booktext.proofs.Compiling.{names-refused, book_done}
use Rattle.booktext.proofs.compile.make_named.Goals as goal

pub returns-in_err-sections : goal.returns-in_err-sections
returns-in_err-sections c =
    let f = c.in_err-sections.field-0.0 in
    rw (handed-as f c.from_residual.result c.from_residual.ensures.1) (names-refused c.args.t.now c.in_err-sections.ensures.told c.args.place.now (row-some f.row))

pub make_book-requires : goal.make_book-requires
make_book-requires c =
    let pre = c.requires in
    let sections = c.in_ok-sections.ensures.sections in
    (pre.0, pre.2, pre.3, sections.0, sections.2)

pub returns : goal.returns
returns c = book_done c.args.t.now c.in_ok-sections.ensures.told refl c.requires.1 c.make_book.result c.make_book.ensures
