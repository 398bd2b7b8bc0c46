-- `booktext::word::all_plain` meets its contract, by the invariant that stands beside this. Assumes nothing.
use mathlib.Core.Path.{refl, sym, ◌∙◌}
use Rattle.hl7.proofs.Comparing.{all-gathered, all-over}
use Rattle.grade.specs.Book.{plain}
use Rattle.booktext.proofs.word.all_plain.Goals as goal

pub loop-x-init : goal.loop-x-init
loop-x-init c = refl

pub loop-x-preserved : goal.loop-x-preserved
loop-x-preserved c = rw c.is_plain-plain.ensures (c.loop-x.invariant ∙ all-gathered plain c.args.w.now c.loop-x.x-index c.loop-x.plain c.loop-x-test.true)

pub returns : goal.returns
returns c = sym (c.loop-x.invariant ∙ all-over plain _ _ _ c.loop-x-test.false)
