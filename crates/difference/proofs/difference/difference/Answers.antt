-- `difference::difference::difference` meets its contract: what differs, or why a book cannot be used. Assumes nothing.
use mathlib.Core.Path.{sym}
use native.Mathlib.Omega.{arith}
use lib.Seq.{length-take-le}
use Rattle.grade.proofs.Indexing.{index_fits}
use Rattle.difference.proofs.Answering.{opened, old_refused}
use Rattle.difference.proofs.difference.difference.Goals as goal

pub slice_bounds-starts-end : goal.slice_bounds-starts-end
slice_bounds-starts-end c = index_fits _ _ c.index_book.ensures c.in-Ok.is

pub slice_bounds-compare-end : goal.slice_bounds-compare-end
slice_bounds-compare-end c = sym (length-take-le _ _ (index_fits _ _ c.index_book.ensures c.in-Ok.is))

pub compare-requires : goal.compare-requires
compare-requires c = opened _ _ c.index_book.ensures c.in-Ok.is

pub returns-in-Err-Malformed : goal.returns-in-Err-Malformed
returns-in-Err-Malformed c = old_refused c.args.old.now _ c.args.new.now c.args.output.now c.index_book.ensures (rw c.in-Err-Malformed.field-0-is at c.in-Err-Malformed.is) (λ e. omega (arith, e)) c.with.ensures

pub returns-in-Err-OtherVersion : goal.returns-in-Err-OtherVersion
returns-in-Err-OtherVersion c = old_refused c.args.old.now _ c.args.new.now c.args.output.now c.index_book.ensures (rw c.in-Err-OtherVersion.field-0-is at c.in-Err-OtherVersion.is) (λ e. omega (arith, e)) c.with-in-Err-OtherVersion.ensures
