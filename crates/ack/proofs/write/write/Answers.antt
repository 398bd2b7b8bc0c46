-- `write::write` meets its contract: the first row that holds, or the ACK. Assumes nothing.
use mathlib.Core.Path.{sym, ap, ◌∙◌}
use native.Mathlib.Omega.{arith}
use borrow.Author.Tests.{not-true, not-false}
use Rattle.std.proofs.lemmas.Result.{err_from_is_err_and}
use Rattle.hl7.proofs.Refusing.{sound-msh, sound-short}
use Rattle.hl7.specs.Refusals.{Told}
use Rattle.grade.proofs.Admitting.{six_passes}
use Rattle.ack.proofs.Admitting.{stamp-length}
use Rattle.ack.proofs.Recorded.{counted-few, write_refused, write_over, write_unsound, write_unstamped, write_sound}
use Rattle.ack.proofs.write.write.Goals as goal

pub returns-in_err-admit_message : goal.returns-in_err-admit_message
returns-in_err-admit_message c =
    let a = c.args in
    let p = err_from_is_err_and c.from_residual.result c.from_residual.ensures.1 in
    rw (p.1, p.2) (write_refused a.m.now a.table.now a.count a.stamp.now a.control a.out.now _ c.in_err-admit_message.ensures)

pub returns-then-table-stated : goal.returns-then-table-stated
returns-then-table-stated c =
    let a = c.args in
    write_over a.m.now a.table.now a.count a.stamp.now a.control a.out.now c.in_ok-admit_message.ensures c.if-table-stated.true

pub returns-then-not-weight : goal.returns-then-not-weight
returns-then-not-weight c =
    let a = c.args in
    write_unsound a.m.now a.table.now a.count a.stamp.now a.control a.out.now c.in_ok-admit_message.ensures (omega arith) c.weigh-weight.ensures (not-true _ c.if-not-weight.true)

pub returns-then-not-is_stamp : goal.returns-then-not-is_stamp
returns-then-not-is_stamp c =
    let a = c.args in
    write_unstamped a.m.now a.table.now a.count a.stamp.now a.control a.out.now c.in_ok-admit_message.ensures (omega arith) c.weigh-weight.ensures (not-false _ c.if-not-weight.false)
    (sym c.is_stamp.ensures ∙ c.if-not-is_stamp.true)

pub put_ack-requires : goal.put_ack-requires
put_ack-requires c =
    let a = c.args in
    let sound = six_passes a.m.now (sym (ap (λ (t : Told). t.number) c.in_ok-admit_message.ensures)) in (
      sound-msh a.m.now sound,
      sound-short a.m.now sound,
      omega (arith, stamp-length a.stamp.now (sym c.is_stamp.ensures ∙ c.if-not-is_stamp.false)),
      counted-few a.count a.table.now (omega arith),
      c.weigh-weight.ensures,
    )

pub returns : goal.returns
returns c =
    let a = c.args in
    write_sound a.m.now a.table.now a.count a.stamp.now a.control a.out.now c.in_ok-admit_message.ensures (omega arith) c.weigh-weight.ensures (not-false _ c.if-not-weight.false) _
    (sym c.is_stamp.ensures ∙ c.if-not-is_stamp.false) c.put_ack.ensures
