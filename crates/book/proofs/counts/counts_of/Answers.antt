-- `book::counts::counts_of` meets its contract: what is added up by the index, or nothing. Assumes nothing.
use mathlib.Core.Path.{sym, ap, ◌∙◌}
use native.Mathlib.Omega.{arith}
use lib.Seq.{length-take-le}
use Rattle.grade.proofs.Indexing.{unusable_some, index_fits}
use Rattle.book.specs.Standing.{counts_of}
use Rattle.book.proofs.Counting.{none-stand, sections-none, sections-listed, listed-stand}
use Rattle.book.proofs.counts.counts_of.Goals as goal

pub slice_bounds-starts-end : goal.slice_bounds-starts-end
slice_bounds-starts-end c = index_fits _ _ c.index_book.ensures c.in-Ok.is

pub slice_bounds-add_up-end : goal.slice_bounds-add_up-end
slice_bounds-add_up-end c = sym (length-take-le _ _ (index_fits _ _ c.index_book.ensures c.in-Ok.is))

pub add_up-requires : goal.add_up-requires
add_up-requires c = listed-stand _ _ c.index_book.ensures c.in-Ok.is (omega (arith, c.starts-2-1.given))

pub returns-in-Ok : goal.returns-in-Ok
returns-in-Ok c = c.add_up.ensures ∙ ap counts_of (sym (sections-listed _ _ c.index_book.ensures c.in-Ok.is))

pub add_up-requires-in-Err : goal.add_up-requires-in-Err
add_up-requires-in-Err c = none-stand _

pub returns-in-Err : goal.returns-in-Err
returns-in-Err c = c.add_up-in-Err.ensures ∙ ap counts_of (sym (sections-none _ _ c.index_book.ensures c.in-Err.is (unusable_some _)))
