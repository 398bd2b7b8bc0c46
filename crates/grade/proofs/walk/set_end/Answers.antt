-- `grade::walk::set_end` meets its contract: at each exit the tests say what the readers of `code_set` did. Assumes nothing.
use Prim.Native.Nat.{◌+◌}
use native.Mathlib.Omega.{arith}
use borrow.Author.Tests.{le-leb, lt-leb}
use lib.ListN.{length}
use Rattle.grade.specs.Book.{code_set}
use Rattle.grade.proofs.walk.set_end.Goals as goal

pub returns-then-saturating_sub-lt2 : goal.returns-then-saturating_sub-lt2
unfolding code_set
returns-then-saturating_sub-lt2 c =
    let a = c.args in
    rw (lt-leb (a.at + 2) (length a.book.now) (omega (arith, c.saturating_sub.ensures)))

pub returns-then-not-count : goal.returns-then-not-count
unfolding code_set
returns-then-not-count c =
    let a = c.args in
    rw (le-leb (a.at + 2) (length a.book.now) (omega (arith, c.saturating_sub.ensures)), ← c.pair_at-count.ensures, c.if-not-count.true)

pub returns : goal.returns
unfolding code_set
returns c =
    let a = c.args in
    rw (le-leb (a.at + 2) (length a.book.now) (omega (arith, c.saturating_sub.ensures)), ← c.pair_at-count.ensures, c.if-not-count.false) c.codes_end.ensures
