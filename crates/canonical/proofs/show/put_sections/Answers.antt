-- `canonical::show::put_sections` meets its contract, by the invariant that stands beside this. Assumes nothing.
use native.Mathlib.Omega.{arith}
use Rattle.hl7.proofs.Comparing.{all-at}
use Rattle.grade.specs.Standing.{stands_at}
use Rattle.ack.proofs.Adding.{adding_more, adding_over}
use Rattle.canonical.proofs.PutBook.{sections_more, sections-over}
use Rattle.canonical.proofs.show.put_sections.Goals as goal

pub loop-start-init : goal.loop-start-init
loop-start-init c = λ after w. w

pub put_section-requires : goal.put_section-requires
put_section-requires c = (all-at (stands_at c.args.book.now) c.args.starts.now c.loop-start.start-index c.requires.0 (omega arith), omega arith)

pub loop-start-preserved : goal.loop-start-preserved
loop-start-preserved c =
    adding_more c.loop-start.invariant (sections_more c.args.book.now c.args.starts.now c.loop-start.start-index (omega arith)) c.put_section.ensures

pub returns : goal.returns
returns c = adding_over c.loop-start.invariant (sections-over c.args.book.now c.args.starts.now c.loop-start.start-index (omega arith))
