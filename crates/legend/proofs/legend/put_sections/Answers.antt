-- `legend::legend::put_sections` meets its contract, by the invariant that stands beside this. Assumes nothing.
use mathlib.Core.Path.{refl, ◌∙◌}
use Rattle.booktext.specs.Standing.{left}
use Rattle.booktext.proofs.Stating.{onward_fewer}
use Rattle.legend.proofs.Listing.{sections-none, sections-room, sections_more, sections-over}
use Rattle.legend.proofs.legend.put_sections.Goals as goal

pub loop-line-init : goal.loop-line-init
loop-line-init c = (sections-none c.args.t.now c.args.out.now c.requires.2 c.next_statement-line.ensures, refl)

pub put_any-requires : goal.put_any-requires
put_any-requires c = (c.requires.0, c.requires.1, c.loop-line-test.true, c.loop-line.invariant.1 ∙ c.requires.3, sections-room c.args.t.now c.loop-line.line c.loop-line.invariant.0 c.loop-line-test.true)

pub loop-line-smaller : goal.loop-line-smaller
loop-line-smaller c = onward_fewer c.args.t.now (left c.args.t.now) c.loop-line-test.true c.next_line.ensures c.next_statement-line-in-loop-line.ensures

pub loop-line-preserved : goal.loop-line-preserved
loop-line-preserved c = (
  sections_more c.args.t.now c.loop-line.line c.loop-line.invariant.0 c.loop-line-test.true c.put_any.ensures c.next_line.ensures c.next_statement-line-in-loop-line.ensures,
  c.cells-1.given ∙ c.loop-line.invariant.1,
)

pub returns : goal.returns
returns c = sections-over c.args.t.now c.loop-line.line c.loop-line.invariant.0 c.loop-line-test.false
