-- `booktext::names::Names::pinned` meets its contract, by the invariant that stands beside this. Assumes nothing.
use Rattle.booktext.proofs.Naming.{names_on, names_past, names_done, pinned-start, pinned_step, pinned-over}
use Rattle.booktext.proofs.names.Names.pinned.Goals as goal

pub loop-cell-init : goal.loop-cell-init
loop-cell-init c = pinned-start _ _ _ c.none-names.ensures

pub returns-then-not-note_sets : goal.returns-then-not-note_sets
returns-then-not-note_sets c = names_past _ c.loop-cell.invariant _ _ (pinned_step _ _ _ c.loop-cell-test.true) c.note_sets.ensures c.if-not-note_sets.true

pub loop-cell-preserved : goal.loop-cell-preserved
loop-cell-preserved c = names_on _ c.loop-cell.invariant _ _ (pinned_step _ _ _ c.loop-cell-test.true) c.note_sets.ensures c.if-not-note_sets.false

pub returns : goal.returns
returns c = names_done _ _ c.loop-cell.invariant (pinned-over _ _ _ c.loop-cell-test.false)
