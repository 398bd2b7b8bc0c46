-- `ack::write::put_ack` meets its contract: its length was measured in two parts, and it is written in two. Assumes nothing.
use Prim.Native.Nat.{ℕ, ◌≤◌}
use mathlib.Core.Path.{◌≡◌, ap, ◌∙◌}
use native.Mathlib.Omega.{arith}
use mathlib.Core.List.{List}
use lib.ListN.{length}
use Rattle.hl7.specs.Place.{is_msh}
use Rattle.hl7.specs.declared.place.Delims.{Delims}
use Rattle.hl7.proofs.Placing.{segment-short}
use Rattle.grade.specs.Header.{msh_of}
use Rattle.grade.specs.Sheet.{finding_limit}
use Rattle.grade.specs.declared.finding.Finding.{Finding}
use Rattle.ack.specs.Layout.{letter}
use Rattle.ack.specs.Pieces.{errs}
use Rattle.ack.specs.Weights.{weightless, weigh_all}
use Rattle.ack.specs.declared.write.Weight.{Weight}
use Rattle.ack.proofs.Answering.{need_fits, too_short, fits}
use Rattle.ack.proofs.Recorded.{weighs_letter, weighs_length, own_ack}
use borrow.Author.Rules.{rules}
use Rattle.ack.proofs.Writing.{wrote-length}
use Rattle.ack.proofs.Adding.{wrote_lent}
use Rattle.ack.proofs.write.put_ack.Goals as goal

-- the records' ERRs are as long as they were weighed
tail : (d : Delims) (records : List Finding) {w : Weight} → w ≡ weigh_all weightless records → length records ≤ finding_limit → w.length ≡ length (errs d records)
tail d records is few = ap (λ (x : Weight). x.length) is ∙ weighs_length records d few

-- a message's first segment is no longer than the message may be
short : (m : List ℕ) {msh : List ℕ} {n : ℕ} → msh ≡ msh_of m → length m ≤ n → length msh ≤ n
short m first h = omega (arith, ap length first, segment-short m 1)

pub heading_length-requires : goal.heading_length-requires
heading_length-requires c = (
  record { named = ap is_msh c.segment-msh.ensures.bytes ∙ c.requires.0; noted = c.note_fields-count.ensures.noted; room = omega (arith, c.note_fields-count.auto.starts) },
  short c.args.m.now c.segment-msh.ensures.bytes c.requires.1,
  c.requires.2,
)

pub overflow_add-need : goal.overflow_add-need
overflow_add-need c =
    let a = c.args in
    record {
      fits = omega (
        arith,
        need_fits c.delims_of-d.result _ a.stamp.now a.control a.records.now a.out.now (short a.m.now c.segment-msh.ensures.bytes c.requires.1) c.requires.2 c.requires.3 c.heading_length.ensures
            (tail c.delims_of-d.result a.records.now c.requires.4 c.requires.3),
      );
    }

pub returns-then-out-need : goal.returns-then-out-need
returns-then-out-need c =
    let a = c.args in
    let d = c.delims_of-d.result in
    let gives = too_short d _ _ a.control _ a.out.now (short a.m.now c.segment-msh.ensures.bytes c.requires.1) c.requires.2 c.requires.3 c.heading_length.ensures (tail d a.records.now c.requires.4 c.requires.3) c.if-out-need.true in
    own_ack a.m.now a.records.now a.stamp.now a.control a.out.now c.delims_of-d.ensures c.segment-msh.ensures.bytes gives

pub put_heading-requires : goal.put_heading-requires
put_heading-requires c = record { named = ap is_msh c.segment-msh.ensures.bytes ∙ c.requires.0; noted = c.note_fields-count.ensures.noted; room = omega (arith, c.note_fields-count.auto.starts) }

pub returns : goal.returns
returns c =
    let a = c.args in
    let d = c.delims_of-d.result in
    let second = c.letter_of-second.ensures ∙ ap (λ (w : Weight). letter w.header w.fault) c.requires.4 ∙ weighs_letter a.records.now in
    let heading = c.put_heading.ensures.wrote (omega arith) (omega arith) in
    let written = wrote_lent c.put_each.ensures (omega (arith, heading.ends)) (omega (arith, wrote-length heading)) (search rules) in
    let gives = fits d _ _ a.control _ a.out.now (short a.m.now c.segment-msh.ensures.bytes c.requires.1) c.requires.2 c.requires.3 c.heading_length.ensures (tail d a.records.now c.requires.4 c.requires.3) c.if-out-need.false second heading written in
    own_ack a.m.now a.records.now a.stamp.now a.control a.out.now c.delims_of-d.ensures c.segment-msh.ensures.bytes gives
