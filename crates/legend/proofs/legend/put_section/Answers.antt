-- `legend::legend::put_section` meets its contract. Assumes nothing.
use mathlib.Core.Path.{sym}
use native.Mathlib.Omega.{arith}
use lib.Seq.{length-take-le}
use Rattle.legend.proofs.Listing.{all_noted, section-listed}
use Rattle.legend.proofs.legend.put_section.Goals as goal

pub slice_bounds-put_rules-end : goal.slice_bounds-put_rules-end
slice_bounds-put_rules-end c = omega (arith, all_noted c.args.t.now c.args.head c.next_line.ensures c.note_section-count.ensures c.requires.4, c.cells-1.given, c.requires.3)

pub slice_bounds-put_rules-end-2 : goal.slice_bounds-put_rules-end-2
slice_bounds-put_rules-end-2 c = sym (length-take-le _ _ (omega (arith, all_noted c.args.t.now c.args.head c.next_line.ensures c.note_section-count.ensures c.requires.4, c.cells-1.given, c.requires.3)))

pub put_rules-requires : goal.put_rules-requires
put_rules-requires c =
    let count = c.note_section-count.result in
    let few = all_noted c.args.t.now c.args.head c.next_line.ensures c.note_section-count.ensures c.requires.4 in
    (c.note_section-count.ensures.marks few, omega (arith, length-take-le count c.note_section-count.new.cells (omega (arith, few, c.cells-1.given, c.requires.3)), few))

pub shape_of-cells : goal.shape_of-cells
shape_of-cells c = c.cells-1.given

pub returns : goal.returns
returns c =
    section-listed c.args.t.now c.args.head c.word_of-key.ensures c.next_line.ensures c.note_section-count.ensures (all_noted c.args.t.now c.args.head c.next_line.ensures c.note_section-count.ensures c.requires.4)
    c.put.ensures c.put-2.ensures c.people_at.ensures c.put_remark.ensures c.put_byte.ensures c.put_rules.ensures
