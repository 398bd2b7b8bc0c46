-- `grade::book::index_sections` meets its contract: at each exit the tests and the calls' answers say what the readers of `sections` did. Assumes nothing.
use mathlib.Core.Path.{sym, ◌∙◌}
use native.Mathlib.Omega.{arith}
use lib.Seq.{length-take-le}
use Rattle.grade.proofs.Indexing.{no_count, wrong_count, few-sections, wrong_section, keys_fit, more_after, key_twice, all_indexed}
use Rattle.grade.proofs.book.index_sections.Goals as goal

pub returns-then-book-le-HEAD_SIZE : goal.returns-then-book-le-HEAD_SIZE
returns-then-book-le-HEAD_SIZE c = no_count _ (omega arith)

pub overflow_cast-count : goal.overflow_cast-count
overflow_cast-count c = omega (arith, c.shared_slice_known-2-1.given 5)

pub returns-then-not-count : goal.returns-then-not-count
returns-then-not-count c = wrong_count _ (omega arith) (c.if-not-count.true)

pub walk_sections-requires : goal.walk_sections-requires
walk_sections-requires c = omega (arith, c.requires, few-sections c.args.book.now (omega arith) (c.if-not-count.false))

pub returns-in_default : goal.returns-in_default
returns-in_default c = wrong_section c.args.book.now (omega arith) (c.if-not-count.false) _ _ c.walk_sections.ensures c.in_default.is

pub returns-then-end-book : goal.returns-then-end-book
returns-then-end-book c = more_after c.args.book.now (omega arith) (c.if-not-count.false) _ _ c.walk_sections.ensures _ c.in-Some.is c.if-end-book.true

pub slice_bounds-keys_distinct-end : goal.slice_bounds-keys_distinct-end
slice_bounds-keys_distinct-end c = omega (arith, c.requires, c.walk_sections.auto.starts, few-sections c.args.book.now (omega arith) (c.if-not-count.false))

pub slice_bounds-keys_distinct-end-2 : goal.slice_bounds-keys_distinct-end-2
slice_bounds-keys_distinct-end-2 c = sym (length-take-le _ _ (omega (arith, c.requires, c.walk_sections.auto.starts, few-sections c.args.book.now (omega arith) (c.if-not-count.false))))

pub keys_distinct-requires : goal.keys_distinct-requires
keys_distinct-requires c = keys_fit c.args.book.now (omega arith) (c.if-not-count.false) _ _ c.walk_sections.ensures _ c.in-Some.is

pub returns-then-keys_distinct : goal.returns-then-keys_distinct
returns-then-keys_distinct c =
    let few = few-sections c.args.book.now (omega arith) (c.if-not-count.false) in
    all_indexed c.args.book.now (omega arith) (c.if-not-count.false) _ _ c.walk_sections.ensures _ c.in-Some.is c.if-end-book.false
    (sym c.keys_distinct.ensures ∙ c.if-keys_distinct.true) (omega (arith, c.requires, c.walk_sections.auto.starts, few))

pub returns-else-keys_distinct : goal.returns-else-keys_distinct
returns-else-keys_distinct c =
    key_twice c.args.book.now (omega arith) (c.if-not-count.false) _ _ c.walk_sections.ensures _ c.in-Some.is c.if-end-book.false
    (sym c.keys_distinct.ensures ∙ c.if-keys_distinct.false)
