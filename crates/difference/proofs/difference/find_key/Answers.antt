-- `difference::difference::find_key` meets its contract, by the invariant that stands beside this. Assumes nothing.
use mathlib.Core.Path.{sym, ap, ◌∙◌}
use native.Mathlib.Omega.{arith}
use lib.ListN.{get_or}
use Rattle.hl7.specs.Bytes.{same}
use Rattle.hl7.proofs.Comparing.{all-at}
use Rattle.grade.specs.Standing.{text_at, stands_at}
use Rattle.grade.proofs.Parts.{stands-key}
use Rattle.difference.proofs.Sections.{place_stop, place_more, place-over}
use Rattle.difference.proofs.difference.find_key.Goals as goal

pub loop-i-init : goal.loop-i-init
loop-i-init c = omega arith

pub text_part-requires : goal.text_part-requires
text_part-requires c =
    let b = c.args.book.now in
    let starts = c.args.starts.now in
    let i = c.loop-i.i in
    (stands-key b (get_or starts i 0) (all-at (stands_at b) starts i c.requires (omega arith))).0

pub returns-then-same_bytes : goal.returns-then-same_bytes
returns-then-same_bytes c =
    let key = c.args.key.now in
    let is = ap (same key) (sym c.text_part.ensures) ∙ sym c.same_bytes.ensures ∙ c.if-same_bytes.true in
    record { is = omega (arith, c.loop-i.invariant, place_stop (text_at c.args.book.now) c.args.starts.now c.loop-i.i key (omega arith) is); inside = omega arith }

pub loop-i-preserved : goal.loop-i-preserved
loop-i-preserved c =
    let key = c.args.key.now in
    let other = ap (same key) (sym c.text_part.ensures) ∙ sym c.same_bytes.ensures ∙ c.if-same_bytes.false in
    omega (arith, c.loop-i.invariant, place_more (text_at c.args.book.now) c.args.starts.now c.loop-i.i key (omega arith) other)

pub returns-clause-is : goal.returns-clause-is
returns-clause-is c =
    let key = c.args.key.now in
    omega (arith, c.loop-i.invariant, place-over (text_at c.args.book.now) c.args.starts.now c.loop-i.i key (omega arith))
