-- `grade::walk::rules_end` meets its contract: the walk ends where the reading does. Assumes nothing.
use borrow.Author.Rules.{rules}
use Rattle.grade.specs.Book.{rule_in}
use Rattle.grade.proofs.Walking.{walked}
use Rattle.grade.proofs.walk.rules_end.Goals as goal

pub returns : goal.returns
returns c = walked _ _ (rule_in c.args.sets) c.args.book.now (λ from x v f r. search rules) _ _ c.args.at _ c.try_fold.ensures.ran
