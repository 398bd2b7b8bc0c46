-- `hl7::cut::pass_parts` meets its contract, by the invariant that stands beside this. Assumes nothing.
use mathlib.Core.Path.{sym, ap, ◌∙◌}
use native.Mathlib.Omega.{arith}
use Rattle.std.proofs.Common.{rules}
use Rattle.hl7.specs.Spans.{occurrences}
use Rattle.hl7.proofs.Cutting.{block_at, block-rest, block_within, piece_from-start, piece_past}
use Rattle.hl7.proofs.cut.pass_parts.Goals as goal

pub loop-block-init : goal.loop-block-init
loop-block-init c = (search rules, search rules, omega arith, piece_from-start _ _ _)

pub loop-block-preserved : goal.loop-block-preserved
loop-block-preserved c =
    let a = c.args in
    let s = a.s.now in
    let l = c.loop-block in
    let at = l.left.at in
    let next = c.in-Some.ensures.steps in
    let left = sym l.invariant.0 ∙ next.1.0 in
    let size = next.1.1 ∙ l.invariant.1 in
    let within = block_within s _ _ at 64 left size (omega arith) in
    let counted = c.from-n.ensures ∙ c.count_in.ensures ∙ ap (occurrences a.d) (sym (block_at s _ _ at 64 left size)) in (
      block-rest s _ _ at 64 left size,
      next.0 ∙ l.invariant.1,
      within,
      l.invariant.3 ∙ piece_past a.d s 64 at l.left.parts _ within counted c.if-left-n.false,
    )
