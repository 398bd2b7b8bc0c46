-- `grade::lookup::codes_after` meets its contract: the codes are passed one by one. Assumes nothing.
use borrow.Author.Rules.{rules}
use Rattle.grade.proofs.Parts.{code_fits}
use Rattle.grade.proofs.Walking.{serves_at}
use Rattle.grade.proofs.Coding.{CodesLeft, codes_begun, code_passed, codes_passed}
use Rattle.grade.proofs.lookup.codes_after.Goals as goal

pub fold-requires-clause-callable : goal.fold-requires-clause-callable
fold-requires-clause-callable c =
    let a = c.args in
    serves_at _ _ (CodesLeft a.book.now a.count a.at) (code_passed a.book.now a.count a.at _ (λ from x v f r. search rules)) _
    (λ n from x h l. let fits = code_fits a.book.now n from h l.reads in search rules) a.at _ (codes_begun a.book.now a.count a.at c.requires)

pub returns : goal.returns
returns c = codes_passed c.args.book.now c.args.count c.args.at _ (λ from x v f r. search rules) _ c.requires c.fold.ensures.ran
