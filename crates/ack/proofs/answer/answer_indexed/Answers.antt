-- `ack::answer::answer_indexed` meets its contract: the first refusal that applies, or what is listed. Assumes nothing.
use mathlib.Core.Path.{ap}
use native.Mathlib.Omega.{arith}
use lib.ListN.{length}
use Rattle.std.proofs.lemmas.Result.{err_from_is_err_and}
use Rattle.hl7.proofs.Placing.{segment-short}
use Rattle.grade.proofs.Admitting.{admitted_by, admitted_short, admitted_holds, stamped_stamp, stamped_admitted}
use Rattle.grade.proofs.Planning.{admitted_few}
use Rattle.ack.proofs.Admitting.{stamp-length, admitted_msh, answer_refused, answer_listed}
use Rattle.ack.proofs.answer.answer_indexed.Goals as goal

pub returns-in_err-by : goal.returns-in_err-by
returns-in_err-by c =
    let p = err_from_is_err_and c.from_residual.result c.from_residual.ensures.1 in
    rw (p.1, p.2) (answer_refused _ _ _ _ _ c.in_err-by.ensures)

pub answer_listed-requires : goal.answer_listed-requires
answer_listed-requires c =
    let a = c.args in
    let stamped = c.in_ok-by.ensures in
    let is = stamped_admitted _ _ _ stamped in
    let short = admitted_short _ _ is in (
      short,
      admitted_holds _ _ is,
      omega (arith, ap length c.segment.ensures.bytes, segment-short a.m.now 1, short),
      omega (arith, stamp-length a.stamp.now (stamped_stamp _ _ _ stamped)),
      admitted_few _ _ is,
      (admitted_by _ _ is).own,
      admitted_msh _ _ is c.segment.ensures.bytes,
    )

pub returns : goal.returns
returns c = answer_listed _ _ _ _ _ _ c.in_ok-by.ensures c.segment.ensures.bytes c.answer_listed.ensures
