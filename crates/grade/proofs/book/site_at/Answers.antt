-- `grade::book::site_at` meets its contract: what stands after the key, and where the rules end. Assumes nothing.
use Prim.Native.Nat.{ℕ, ◌+◌, ◌*◌, ◌≤◌}
use mathlib.Core.Path.{◌≡◌}
use mathlib.Core.Bool.{true}
use mathlib.Core.List.{List}
use native.Mathlib.Omega.{arith}
use lib.ListN.{length}
use Rattle.grade.specs.Limits.{rule_size}
use Rattle.grade.specs.Reader.{pair}
use Rattle.grade.specs.Standing.{text_end, stands_at}
use Rattle.grade.proofs.Parts.{stands_parts}
use Rattle.grade.proofs.book.site_at.Goals as goal

inside : (b : List ℕ) (at counts : ℕ) → stands_at b at ≡ true → counts ≡ text_end b at → counts + 3 + rule_size * pair b counts ≤ length b
inside b at counts h e = rw e (stands_parts b at h).1.inside

pub text_after-counts-requires : goal.text_after-counts-requires
text_after-counts-requires c = (stands_parts c.args.book.now c.args.at c.requires).1.fits

pub pair_at-rule_count-requires : goal.pair_at-rule_count-requires
pair_at-rule_count-requires c = omega (arith, inside c.args.book.now c.args.at _ c.requires c.text_after-counts.ensures)

pub overflow_add-rules_at : goal.overflow_add-rules_at
overflow_add-rules_at c = omega (arith, inside c.args.book.now c.args.at _ c.requires c.text_after-counts.ensures)

pub overflow_mul-result : goal.overflow_mul-result
overflow_mul-result c = omega (arith, inside c.args.book.now c.args.at _ c.requires c.text_after-counts.ensures)

pub overflow_add-result : goal.overflow_add-result
overflow_add-result c = omega (arith, inside c.args.book.now c.args.at _ c.requires c.text_after-counts.ensures)

pub overflow_add-result-2 : goal.overflow_add-result-2
overflow_add-result-2 c = omega (arith, inside c.args.book.now c.args.at _ c.requires c.text_after-counts.ensures)

pub bounds-book-counts : goal.bounds-book-counts
bounds-book-counts c = omega (arith, inside c.args.book.now c.args.at _ c.requires c.text_after-counts.ensures)

pub returns : goal.returns
returns c = rw (c.pair_at-rule_count.ensures, c.text_after-counts.ensures)
