-- `difference::difference::put_new_sections` meets its contract, by the invariant that stands beside this. Assumes nothing.
use mathlib.Core.List.{map}
use native.Mathlib.Omega.{arith}
use Rattle.hl7.proofs.Comparing.{all-at}
use Rattle.grade.specs.Standing.{stands_at, contents_at}
use Rattle.ack.proofs.Adding.{adding_more, adding_over}
use Rattle.difference.specs.Difference.{new_section}
use Rattle.difference.proofs.Sections.{sections_more, sections-over}
use Rattle.difference.proofs.difference.put_new_sections.Goals as goal

pub loop-start-init : goal.loop-start-init
loop-start-init c = λ after w. w

pub put_new_section-requires : goal.put_new_section-requires
put_new_section-requires c = (c.requires.0, all-at (stands_at c.args.new.now) c.args.news.now c.loop-start.start-index c.requires.1 (omega arith))

pub loop-start-preserved : goal.loop-start-preserved
loop-start-preserved c =
    let lines = new_section (map (contents_at c.args.old.now) c.args.olds.now) in
    adding_more c.loop-start.invariant (sections_more lines c.args.new.now c.args.news.now c.loop-start.start-index (omega arith)) c.put_new_section.ensures

pub returns : goal.returns
returns c =
    let lines = new_section (map (contents_at c.args.old.now) c.args.olds.now) in
    adding_over c.loop-start.invariant (sections-over lines c.args.new.now c.args.news.now c.loop-start.start-index (omega arith))
