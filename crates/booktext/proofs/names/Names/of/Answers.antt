-- `booktext::names::Names::of` meets its contract, by the invariant that stands beside this. Assumes nothing.
use Rattle.booktext.proofs.Naming.{names_on, names_past, names_done, named_start, named-past, named_step, named-over}
use Rattle.booktext.proofs.names.Names.of.Goals as goal

pub loop-cell-init : goal.loop-cell-init
loop-cell-init c = named_start _ _ _ c.in_ok-names.ensures

pub returns-in_err-names : goal.returns-in_err-names
returns-in_err-names c = rw c.from_residual.ensures (named-past _ c.in_err-names.ensures)

pub returns-then-not-note_code : goal.returns-then-not-note_code
returns-then-not-note_code c = names_past _ c.loop-cell.invariant _ _ (named_step _ _ _ c.loop-cell-test.true) c.note_code.ensures c.if-not-note_code.true

pub loop-cell-preserved : goal.loop-cell-preserved
loop-cell-preserved c = names_on _ c.loop-cell.invariant _ _ (named_step _ _ _ c.loop-cell-test.true) c.note_code.ensures c.if-not-note_code.false

pub returns : goal.returns
returns c = names_done _ _ c.loop-cell.invariant (named-over _ _ _ c.loop-cell-test.false)
