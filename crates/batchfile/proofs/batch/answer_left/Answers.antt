-- `batchfile::batch::answer_left` meets its contract: each way out is one of the rows. Assumes nothing.
use mathlib.Core.Path.{sym}
use lib.ListN.{take}
use lib.Seq.{length-take-le}
use Rattle.ack.proofs.Writing.{wrote_as}
use Rattle.batchfile.proofs.Answering.{left-refused, left-short, left-room, left-written}
use Rattle.batchfile.proofs.batch.answer_left.Goals as goal

pub returns-in-Err : goal.returns-in-Err
returns-in-Err c = let a = c.args in left-refused (take a.kept.to a.room.now) a.kept.count _ _ _ _ _ c.in-Err.ensures

pub returns-then-out-need : goal.returns-then-out-need
returns-then-out-need c =
    let a = c.args in
    left-short (take a.kept.to a.room.now) a.kept.count _ _ _ _ _ c.in-Ok.ensures (sym (length-take-le a.kept.to a.room.now c.requires.0)) c.if-out-need.true

pub put_all-requires : goal.put_all-requires
put_all-requires c =
    let a = c.args in
    let put = wrote_as c.put-to.ensures c.front.ensures in (
      c.requires.1,
      c.requires.2,
      c.in-Ok.ensures.none,
      left-room (take a.kept.to a.room.now) a.kept.count _ _ _ _ a.out.now c.in-Ok.ensures (sym (length-take-le a.kept.to a.room.now c.requires.0)) c.if-out-need.false put,
    )

pub returns : goal.returns
returns c =
    let a = c.args in
    let put = wrote_as c.put-to.ensures c.front.ensures in
    left-written (take a.kept.to a.room.now) a.kept.count _ _ _ _ _ c.in-Ok.ensures (sym (length-take-le a.kept.to a.room.now c.requires.0)) c.if-out-need.false put c.put_all.ensures
