-- `grade::walk::sets_end` meets its contract: the walk ends where the reading does. Assumes nothing.
use borrow.Author.Rules.{rules}
use Rattle.grade.specs.Book.{code_set}
use Rattle.grade.proofs.Walking.{walked}
use Rattle.grade.proofs.walk.sets_end.Goals as goal

pub returns : goal.returns
returns c = walked _ _ code_set c.args.book.now (λ from x v f r. search rules) _ _ c.args.at _ c.try_fold.ensures.ran
