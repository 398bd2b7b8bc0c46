-- `difference::difference::compare` meets its contract: the lines, or why the new book cannot be used. Assumes nothing.
use mathlib.Core.Path.{sym}
use native.Mathlib.Omega.{arith}
use lib.Seq.{length-take-le}
use Rattle.grade.proofs.Indexing.{index_fits}
use Rattle.difference.proofs.Answering.{opened, new_refused}
use Rattle.difference.proofs.difference.compare.Goals as goal

pub slice_bounds-starts-end : goal.slice_bounds-starts-end
slice_bounds-starts-end c = index_fits _ _ c.index_book.ensures c.in-Ok.is

pub slice_bounds-write_differences-end : goal.slice_bounds-write_differences-end
slice_bounds-write_differences-end c = sym (length-take-le _ _ (index_fits _ _ c.index_book.ensures c.in-Ok.is))

pub write_differences-requires : goal.write_differences-requires
write_differences-requires c = (c.requires, opened _ _ c.index_book.ensures c.in-Ok.is)

pub returns-in-Err-Malformed : goal.returns-in-Err-Malformed
returns-in-Err-Malformed c = new_refused c.args.old.now c.args.olds.now c.requires c.args.new.now _ c.args.output.now c.index_book.ensures (rw c.in-Err-Malformed.field-0-is at c.in-Err-Malformed.is) (λ e. omega (arith, e)) c.with.ensures

pub returns-in-Err-OtherVersion : goal.returns-in-Err-OtherVersion
returns-in-Err-OtherVersion c = new_refused c.args.old.now c.args.olds.now c.requires c.args.new.now _ c.args.output.now c.index_book.ensures (rw c.in-Err-OtherVersion.field-0-is at c.in-Err-OtherVersion.is) (λ e. omega (arith, e)) c.with-in-Err-OtherVersion.ensures
