-- `grade::book::open_at` meets its contract: what the index told, or what is found by it. Assumes nothing.
use mathlib.Core.Path.{sym, ap, ◌∙◌}
use lib.Seq.{length-take-le}
use Rattle.std.proofs.lemmas.Result.{err_from_is_err_and}
use Rattle.hl7.specs.Refusals.{Told}
use Rattle.grade.specs.Admission.{indexed_told, admitted_told}
use Rattle.grade.proofs.Indexing.{unusable_some, open_refused, index_fits, index_stand, open_found}
use Rattle.grade.proofs.book.open_at.Goals as goal

pub slice_bounds-find_section-end : goal.slice_bounds-find_section-end
slice_bounds-find_section-end c = sym (length-take-le _ _ (index_fits _ _ c.requires c.in_ok-count.was))

pub find_section-requires : goal.find_section-requires
find_section-requires c = index_stand _ _ c.requires c.in_ok-count.was

pub returns : goal.returns
returns c = open_found _ _ c.requires c.in_ok-count.was _ c.find_section.ensures

pub returns-in_err-count : goal.returns-in_err-count
returns-in_err-count c =
    let p = err_from_is_err_and c.from_residual.result c.from_residual.ensures.1 in
    let told = ap admitted_told p.1 ∙ p.2 in
    open_refused _ _ c.requires c.args.key.now (told ∙ ap indexed_told (sym c.in_err-count.was)) (λ none. unusable_some _ (sym (ap (λ (t : Told). t.number) told) ∙ none))
