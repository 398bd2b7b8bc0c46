-- `grade::within::next_value` meets its contract, by the invariant that stands beside this. Assumes nothing.
use Prim.Native.Nat.{ℕ, ◌≤◌}
use mathlib.Core.Path.{◌≡◌, refl, sym, ◌∙◌}
use mathlib.Core.List.{List}
use Rattle.hl7.specs.Cut.{end_from}
use native.Mathlib.Omega.{arith}
use lib.ListN.{length}
use Rattle.hl7.proofs.Cutting.{end_within}
use Rattle.grade.proofs.Repetitions.{value-broken, value-fine, value_last, values-over}
use Rattle.grade.proofs.within.next_value.Goals as goal

pub loop-from-init : goal.loop-from-init
loop-from-init c =
    let given = c.requires in (given.0, given.1, given.2, given.3, refl)

pub repetition_end-end-requires : goal.repetition_end-end-requires
repetition_end-end-requires c = (omega arith, c.loop-from.invariant.3)

-- the repetition lies in the field
lies : (d : ℕ) (fld : List ℕ) (from end : ℕ) → from ≤ length fld → end ≡ end_from d fld from → (from ≤ end) × (end ≤ length fld)
lies d fld from end h ends = (omega (arith, ends), omega (arith, ends, end_within d fld from h))

pub slice_bounds-rep-count : goal.slice_bounds-rep-count
slice_bounds-rep-count c =
    let t = lies c.args.d.tilde c.args.fld.now c.loop-from.from _ (omega arith) c.repetition_end-end.ensures in omega (arith, t.0, t.1)

pub slice_bounds-rep-start : goal.slice_bounds-rep-start
slice_bounds-rep-start c =
    let t = lies c.args.d.tilde c.args.fld.now c.loop-from.from _ (omega arith) c.repetition_end-end.ensures in omega (arith, t.0, t.1)

pub slice_bounds-rep-end : goal.slice_bounds-rep-end
slice_bounds-rep-end c =
    let t = lies c.args.d.tilde c.args.fld.now c.loop-from.from _ (omega arith) c.repetition_end-end.ensures in omega (arith, t.0, t.1)

pub breaks_rule-requires : goal.breaks_rule-requires
breaks_rule-requires c = c.loop-from.invariant.2

pub overflow_add-result : goal.overflow_add-result
overflow_add-result c =
    let l = c.loop-from in omega (arith, l.invariant.0, l.invariant.1)

pub overflow_add-result-then-breaks_rule : goal.overflow_add-result-then-breaks_rule
overflow_add-result-then-breaks_rule c =
    let t = lies c.args.d.tilde c.args.fld.now c.loop-from.from _ (omega arith) c.repetition_end-end.ensures in omega (arith, t.1)

pub returns-then-breaks_rule : goal.returns-then-breaks_rule
returns-then-breaks_rule c =
    let a = c.args in
    let l = c.loop-from in
    let t = lies c.args.d.tilde c.args.fld.now c.loop-from.from _ (omega arith) c.repetition_end-end.ensures in
    (l.invariant.4 ∙ value-broken a.d a.fld.now a.book.now a.rule a.codes l.done (omega arith) c.repetition_end-end.ensures (sym c.breaks_rule.ensures ∙ c.if-breaks_rule.true), omega (arith, t.0, l.invariant.1))

pub returns-then-is_required : goal.returns-then-is_required
returns-then-is_required c =
    let a = c.args in
    let l = c.loop-from in
    l.invariant.4 ∙ value_last a.d a.fld.now a.book.now a.rule a.codes l.done (omega arith) c.repetition_end-end.ensures (sym c.breaks_rule.ensures ∙ c.if-breaks_rule.false) (sym c.is_required.ensures ∙ c.if-is_required.true)

pub overflow_add-done : goal.overflow_add-done
overflow_add-done c =
    let l = c.loop-from in omega (arith, l.invariant.0, l.invariant.1)

pub overflow_add-from : goal.overflow_add-from
overflow_add-from c =
    let t = lies c.args.d.tilde c.args.fld.now c.loop-from.from _ (omega arith) c.repetition_end-end.ensures in omega (arith, t.1)

pub loop-from-smaller : goal.loop-from-smaller
loop-from-smaller c =
    let t = lies c.args.d.tilde c.args.fld.now c.loop-from.from _ (omega arith) c.repetition_end-end.ensures in omega (arith, t.0, t.1)

pub loop-from-preserved : goal.loop-from-preserved
loop-from-preserved c =
    let a = c.args in
    let l = c.loop-from in
    let t = lies c.args.d.tilde c.args.fld.now c.loop-from.from _ (omega arith) c.repetition_end-end.ensures in
    (l.invariant.0, omega (arith, t.0, l.invariant.1), l.invariant.2, l.invariant.3, l.invariant.4 ∙ value-fine a.d a.fld.now a.book.now a.rule a.codes l.done (omega arith) c.repetition_end-end.ensures (sym c.breaks_rule.ensures ∙ c.if-breaks_rule.false))

pub returns : goal.returns
returns c =
    let a = c.args in
    let l = c.loop-from in
    l.invariant.4 ∙ values-over a.d a.fld.now a.book.now a.rule a.codes l.done l.from (omega arith)
