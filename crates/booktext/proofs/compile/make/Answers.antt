-- `booktext::compile::make` meets its contract. Assumes nothing.
use mathlib.Core.Path.{refl}
use Rattle.booktext.proofs.Telling.{row-some, handed-as}
use Rattle.booktext.proofs.Compiling.{bytes-refused, words-refused, text-short, text-sound, text-made}
use Rattle.booktext.proofs.compile.make.Goals as goal

pub returns-in_err-bytes_told : goal.returns-in_err-bytes_told
returns-in_err-bytes_told c =
    let f = c.in_err-bytes_told.field-0.0 in
    rw (handed-as f c.from_residual.result c.from_residual.ensures.1) (bytes-refused c.args.t.now c.in_err-bytes_told.ensures c.args.place.now (row-some f.row))

pub returns-in_err-first_fault : goal.returns-in_err-first_fault
returns-in_err-first_fault c =
    let f = c.in_err-first_fault.field-0.0 in
    rw (handed-as f c.from_residual-in_err-first_fault.result c.from_residual-in_err-first_fault.ensures.1)
    (words-refused c.args.t.now c.in_ok-bytes_told.ensures refl c.in_err-first_fault.ensures c.args.place.now (row-some f.row))

pub make_noted-requires : goal.make_noted-requires
make_noted-requires c =
    let t = c.args.t.now in
    (c.requires, text-short t c.in_ok-bytes_told.ensures refl, text-sound t c.in_ok-bytes_told.ensures refl c.in_ok-first_fault.ensures refl)

pub returns : goal.returns
returns c = text-made c.args.t.now c.in_ok-bytes_told.ensures refl c.in_ok-first_fault.ensures refl c.make_noted.ensures
