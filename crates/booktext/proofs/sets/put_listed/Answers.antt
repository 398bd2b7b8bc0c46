-- `booktext::sets::put_listed` meets its contract, by the invariant that stands beside this. Assumes nothing.
use mathlib.Core.Path.{sym, ap, ◌∙◌}
use mathlib.Core.List.{map}
use Rattle.grade.specs.Encoding.{each}
use Rattle.booktext.specs.Changes.{kept}
use Rattle.booktext.specs.Standing.{body_from, is_short, noted}
use Rattle.booktext.proofs.Stating.{onward_fewer}
use Rattle.booktext.proofs.Spelling.{spells_over, spelt_as, listed_start, listed-short-here, listed-short, listed_more, listed-over}
use Rattle.booktext.proofs.sets.put_listed.Goals as goal

pub loop-at-init : goal.loop-at-init
loop-at-init c =
    let same = listed_start c.args.t.now c.args.start c.next_in_body-at.ensures in
    (ap (each is_short) (sym same) ∙ c.requires.1, λ after r s. spelt_as s (ap (kept c.args.name.now (map (noted c.args.t.now) c.args.cells.now)) (sym same)))

pub put_line-to-requires : goal.put_line-to-requires
put_line-to-requires c = (c.requires.0, listed-short-here c.args.t.now c.loop-at-test.true c.loop-at.invariant.0)

pub loop-at-smaller : goal.loop-at-smaller
loop-at-smaller c =
    let t = c.args.t.now in
    onward_fewer t (body_from t) c.loop-at-test.true c.next_line.ensures c.next_in_body-at-in-loop-at.ensures

pub loop-at-preserved : goal.loop-at-preserved
loop-at-preserved c =
    let entry = c.args in
    let t = entry.t.now in
    let inv = c.loop-at.invariant in
    let here = c.loop-at-test.true in (
      listed-short t here c.next_line.ensures c.next_in_body-at-in-loop-at.ensures inv.0,
      listed_more t here c.next_line.ensures c.next_in_body-at-in-loop-at.ensures entry.name.now (map (noted t) entry.cells.now) inv.1 c.put_line-to.ensures,
    )

pub returns : goal.returns
returns c =
    let entry = c.args in
    spells_over c.loop-at.invariant.1 (listed-over entry.t.now c.loop-at-test.false entry.name.now (map (noted entry.t.now) entry.cells.now)) c.put_none.ensures
