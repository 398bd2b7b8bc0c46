-- `booktext::fault::first_fault` meets its contract, by the invariant that stands beside this. Assumes nothing.
use mathlib.Core.Path.{refl, sym, ◌∙◌}
use Rattle.booktext.specs.Standing.{left}
use Rattle.booktext.proofs.Stating.{onward_fewer}
use Rattle.booktext.proofs.Telling.{row-some}
use Rattle.booktext.proofs.Faulting.{fault-start, fault-over, fault-here, fault-later}
use Rattle.booktext.proofs.fault.first_fault.Goals as goal

pub loop-at-init : goal.loop-at-init
loop-at-init c = fault-start _ _ c.next_statement-at.ensures

pub returns-in-Some : goal.returns-in-Some
returns-in-Some c = c.with.ensures ∙ fault-here _ _ _ c.loop-at-test.true c.in-Some.ensures (row-some c.in-Some.row) c.line_of.ensures ∙ sym c.loop-at.invariant

pub next_line-requires : goal.next_line-requires
next_line-requires c = c.loop-at-test.true

pub loop-at-smaller : goal.loop-at-smaller
loop-at-smaller c = onward_fewer _ (left _) c.loop-at-test.true c.next_line.ensures c.next_statement-at-in-loop-at.ensures

pub loop-at-preserved : goal.loop-at-preserved
loop-at-preserved c =
    c.loop-at.invariant
    ∙ fault-later _ _ _ c.loop-at-test.true c.in_default.ensures refl c.verb_at.ensures.0 c.inside-here.ensures c.next_line.ensures c.next_statement-at-in-loop-at.ensures

pub returns : goal.returns
returns c = fault-over _ _ _ c.loop-at-test.false ∙ sym c.loop-at.invariant
