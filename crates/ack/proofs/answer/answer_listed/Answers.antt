-- `ack::answer::answer_listed` meets its contract: the first run tells the length and the letter, the second writes the bytes. Assumes nothing.
use mathlib.Core.Path.{sym, ap₂, ◌∙◌}
use native.Mathlib.Omega.{arith}
use Rattle.grade.specs.Rest.{findings_in}
use Rattle.ack.specs.Layout.{letter}
use Rattle.ack.proofs.Answering.{need_fits, too_short, fits}
use Rattle.ack.proofs.Listing.{whole_is, listed-told, put_all, put_told}
use borrow.Author.Rules.{rules}
use Rattle.ack.proofs.Writing.{wrote-length}
use Rattle.ack.proofs.Adding.{wrote_lent}
use Rattle.ack.proofs.answer.answer_listed.Goals as goal

pub put_errs-fault-requires : goal.put_errs-fault-requires
put_errs-fault-requires c =
    let g = c.first_sheet-first.ensures in (g.sheeted, g.briefly)

pub heading_length-requires : goal.heading_length-requires
heading_length-requires c = (
  record { named = c.requires.6; noted = c.note_fields-count.ensures.noted; room = omega (arith, c.note_fields-count.auto.starts) },
  c.requires.2,
  c.requires.3,
)

pub overflow_add-need : goal.overflow_add-need
overflow_add-need c =
    let a = c.args in
    let all = findings_in a.book.now a.by.section a.by.header a.m.now in
    let measured = whole_is a.by.d all ((put_all _ _ a.by all c.first_sheet-first.ensures c.put_errs-fault.ensures).wrote (omega arith) (omega arith)) c.requires.4 in
    record { fits = omega (arith, need_fits a.by.d a.msh.now a.stamp.now a.control _ a.out.now c.requires.2 c.requires.3 c.requires.4 c.heading_length.ensures measured) }

pub returns-then-out-need : goal.returns-then-out-need
returns-then-out-need c =
    let a = c.args in
    let all = findings_in a.book.now a.by.section a.by.header a.m.now in
    too_short _ _ _ _ _ _ c.requires.2 c.requires.3 c.requires.4 c.heading_length.ensures
    (whole_is a.by.d all ((put_all _ _ a.by all c.first_sheet-first.ensures c.put_errs-fault.ensures).wrote (omega arith) (omega arith)) c.requires.4) c.if-out-need.true

pub put_heading-requires : goal.put_heading-requires
put_heading-requires c = record { named = c.requires.6; noted = c.note_fields-count.ensures.noted; room = omega (arith, c.note_fields-count.auto.starts) }

pub put_errs-requires : goal.put_errs-requires
put_errs-requires c =
    let g = c.first_sheet-first.ensures in (g.sheeted, g.briefly)

pub returns : goal.returns
returns c =
    let a = c.args in
    let all = findings_in a.book.now a.by.section a.by.header a.m.now in
    let few = c.requires.4 in
    let g = c.first_sheet-first.ensures in
    let second = c.letter_of-second.ensures ∙ ap₂ letter (c.any_wrong.ensures ∙ sym (listed-told a.book.now a.by.section a.by.header a.m.now)) (put_told _ _ a.by all g c.put_errs-fault.ensures) in
    let heading = c.put_heading.ensures.wrote (omega arith) (omega arith) in
    fits _ _ _ _ _ _ c.requires.2 c.requires.3 few c.heading_length.ensures (whole_is a.by.d all ((put_all _ _ a.by all g c.put_errs-fault.ensures).wrote (omega arith) (omega arith)) few) c.if-out-need.false
    second heading (wrote_lent (put_all _ _ a.by all g c.put_errs.ensures) (omega (arith, heading.ends)) (omega (arith, wrote-length heading)) (search rules))
