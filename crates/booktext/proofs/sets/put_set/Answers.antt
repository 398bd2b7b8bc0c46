-- `booktext::sets::put_set` meets its contract. Assumes nothing.
use mathlib.Core.List.{map}
use Rattle.booktext.specs.Standing.{noted}
use Rattle.booktext.proofs.Setting.{set_wrong, set_put}
use Rattle.booktext.proofs.sets.put_set.Goals as goal

pub returns-then-count : goal.returns-then-count
returns-then-count c =
    let entry = c.args in
    set_wrong entry.t.now entry.name.now (map (noted entry.t.now) entry.cells.now) entry.out.now c.put_held-count.ensures c.seek_head-line.ensures entry.head c.if-count.true entry.at c.found_at.ensures c.line_of.ensures c.line_of-then-count.ensures c.in_section.ensures

pub returns : goal.returns
returns c =
    let entry = c.args in
    set_put entry.t.now entry.name.now (map (noted entry.t.now) entry.cells.now) entry.out.now c.put_held-count.ensures entry.head c.if-count.false c.put_two-next.ensures c.put_held.ensures
