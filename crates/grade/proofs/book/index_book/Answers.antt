-- `grade::book::index_book` meets its contract: the two tests are those of rows 7 and 8. Assumes nothing.
use mathlib.Core.Path.{sym, ◌∙◌}
use Rattle.grade.proofs.Indexing.{head-long, head_wrong, version_other, version_right_lem}
use Rattle.grade.proofs.book.index_book.Goals as goal

pub returns-then-not-head_right : goal.returns-then-not-head_right
returns-then-not-head_right c = head_wrong _ _ (sym c.head_right.ensures ∙ c.if-not-head_right.true)

pub pair_at-requires : goal.pair_at-requires
pair_at-requires c = head-long _ (sym c.head_right.ensures ∙ c.if-not-head_right.false)

pub returns-then-pair_at-ne-BOOK_VERSION : goal.returns-then-pair_at-ne-BOOK_VERSION
returns-then-pair_at-ne-BOOK_VERSION c = version_other _ _ (sym c.head_right.ensures ∙ c.if-not-head_right.false) (λ is. c.if-pair_at-ne-BOOK_VERSION.true (c.pair_at.ensures ∙ is))

pub returns : goal.returns
returns c = version_right_lem _ _ (sym c.head_right.ensures ∙ c.if-not-head_right.false) (sym c.pair_at.ensures ∙ c.if-pair_at-ne-BOOK_VERSION.false) c.index_sections.ensures
