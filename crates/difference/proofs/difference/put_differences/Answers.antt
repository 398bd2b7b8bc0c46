-- `difference::difference::put_differences` meets its contract. Assumes nothing.
use mathlib.Core.List.{map}
use native.Mathlib.Omega.{arith}
use borrow.Author.Rules.{rules}
use Rattle.grade.specs.Standing.{contents_at}
use Rattle.ack.proofs.Adding.{wrote_lent}
use Rattle.difference.proofs.Sections.{books_written}
use Rattle.difference.proofs.difference.put_differences.Goals as goal

pub returns : goal.returns
returns c =
    let olds = map (contents_at c.args.old.now) c.args.olds.now in
    let news = map (contents_at c.args.new.now) c.args.news.now in
    wrote_lent (books_written olds news c.put_old_sections.ensures c.put_new_sections.ensures) (omega arith) (omega arith) (search rules)
