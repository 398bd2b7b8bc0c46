-- `canonical::show::show` meets its contract: the text of a book that can be used, or why it cannot. Assumes nothing.
use mathlib.Core.Path.{sym}
use native.Mathlib.Omega.{arith}
use lib.Seq.{length-take-le}
use Rattle.grade.proofs.Indexing.{index_fits}
use Rattle.canonical.proofs.PutBook.{show_refused, book-listed, show_written}
use Rattle.canonical.proofs.show.show.Goals as goal

pub slice_bounds-starts-end : goal.slice_bounds-starts-end
slice_bounds-starts-end c = index_fits _ _ c.index_book.ensures c.in-Ok.is

pub slice_bounds-write_shown-end : goal.slice_bounds-write_shown-end
slice_bounds-write_shown-end c = sym (length-take-le _ _ (index_fits _ _ c.index_book.ensures c.in-Ok.is))

pub write_shown-requires : goal.write_shown-requires
write_shown-requires c = book-listed _ _ c.index_book.ensures c.in-Ok.is

pub returns-in-Ok : goal.returns-in-Ok
returns-in-Ok c = show_written _ _ c.index_book.ensures c.in-Ok.is c.args.output.now c.write_shown.ensures

pub returns-in-Err-Malformed : goal.returns-in-Err-Malformed
returns-in-Err-Malformed c = show_refused _ _ c.index_book.ensures c.args.output.now (rw c.in-Err-Malformed.field-0-is at c.in-Err-Malformed.is) (λ e. omega (arith, e)) c.with.ensures

pub returns-in-Err-OtherVersion : goal.returns-in-Err-OtherVersion
returns-in-Err-OtherVersion c = show_refused _ _ c.index_book.ensures c.args.output.now (rw c.in-Err-OtherVersion.field-0-is at c.in-Err-OtherVersion.is) (λ e. omega (arith, e)) c.with-in-Err-OtherVersion.ensures
