-- `grade::sheet::list_behind` meets its contract, by the invariant that stands beside this. Assumes nothing.
use Prim.Native.Nat.{ℕ, ◌+◌, ◌≤◌, ◌<◌}
use mathlib.Core.Path.{◌≡◌, refl, ap}
use mathlib.Core.Bool.{Bool, true, false, not, ◌&&◌, ◌||◌}
use native.Mathlib.Omega.{arith}
use borrow.Author.Tests.{leb-false, not-true}
use lib.Dec.{leb}
use Rattle.hl7.proofs.Comparing.{and_both, or_neither}
use Rattle.grade.specs.Order.{may_follow}
use Rattle.grade.specs.Sheet.{line_count, finding_limit}
use Rattle.grade.proofs.Following.{by-table}
use Rattle.grade.proofs.Stepping.{step_found, step_end, step_less}
use Rattle.grade.proofs.Sheets.{step-as, listing_begun, listing_more, listed, listed-last}
use Rattle.grade.proofs.sheet.list_behind.Goals as goal

pub loop-finding-init : goal.loop-finding-init
loop-finding-init c = (listing_begun c.requires.0 c.requires.1, λ _. omega arith)

pub next-requires : goal.next-requires
next-requires c =
    let ready = c.requires.0 in
    let h = c.loop-finding.invariant.0 in
    (ready.given, h.stands, omega (arith, h.wide, ready.wide))

pub note-requires : goal.note-requires
note-requires c = λ e. omega (arith, c.loop-finding.invariant.0.long, c.requires.0.lined, c.loop-finding.invariant.1 e)

-- no more are counted than there are
used-few : (whole : Bool) (used left all : ℕ) → (whole ≡ false → used < line_count) → used + left ≡ all → (whole ≡ true → all ≤ finding_limit) → used ≤ finding_limit
used-few true used left all few sum most = omega (arith, sum, most refl)
used-few false used left all few sum most = omega (arith, few refl)

pub overflow_add-used : goal.overflow_add-used
overflow_add-used c =
    let l = c.loop-finding in
    record { fits = omega (arith, used-few c.args.whole l.used _ _ l.invariant.1 l.invariant.0.counted c.requires.2) }

-- a sheet that is not the last is full, and not for counting alone
not-whole : (whole full ended : Bool) → (ended || (not whole && full)) ≡ true → ended ≡ false → whole ≡ false
not-whole whole full ended taken e = not-true whole (and_both (not whole) full (rw e at taken)).0

pub returns-then-ended-whole : goal.returns-then-ended-whole
returns-then-ended-whole c =
    let s = c.args.s.now in
    let l = c.loop-finding in
    let found = step_found may_follow s.by.d c.args.m.now c.args.book.now s.by.section _ _ _ c.next.result (step-as s.by.d c.args.m.now c.args.book.now s.by.section _ _ c.loop-finding.counts c.loop-finding.cursor _ (by-table _ may_follow c.follow_table-table.ensures) c.next.ensures) c.in-Some.is in
    let seen = ap (λ (r : Bool). l.fault || r) c.is_fault-fault.ensures in
    let more = listing_more c.requires.0 l.invariant.0 seen c.note.auto.lines c.next.auto.starts found.0 found.1 c.note.ensures in
    listed c.requires.0 more (omega arith) (λ e. omega (arith, l.invariant.1 e)) (not-whole c.args.whole (leb line_count (l.used + 1)) _ c.if-ended-whole.true)

pub loop-finding-smaller : goal.loop-finding-smaller
loop-finding-smaller c =
    let s = c.args.s.now in
    step_less may_follow s.by.d c.args.m.now c.args.book.now s.by.section _ _ _ c.next.result (step-as s.by.d c.args.m.now c.args.book.now s.by.section _ _ c.loop-finding.counts c.loop-finding.cursor _ (by-table _ may_follow c.follow_table-table.ensures) c.next.ensures) c.in-Some.is

-- the sheet is not full yet
not_full : (whole : Bool) (used : ℕ) → (not whole && leb line_count used) ≡ false → whole ≡ false → used < line_count
not_full whole used left e = leb-false line_count used (rw e at left)

pub loop-finding-preserved : goal.loop-finding-preserved
loop-finding-preserved c =
    let s = c.args.s.now in
    let l = c.loop-finding in
    let found = step_found may_follow s.by.d c.args.m.now c.args.book.now s.by.section _ _ _ c.next.result (step-as s.by.d c.args.m.now c.args.book.now s.by.section _ _ c.loop-finding.counts c.loop-finding.cursor _ (by-table _ may_follow c.follow_table-table.ensures) c.next.ensures) c.in-Some.is in (
      listing_more c.requires.0 l.invariant.0 (ap (λ (r : Bool). l.fault || r) c.is_fault-fault.ensures) c.note.auto.lines c.next.auto.starts found.0 found.1 c.note.ensures,
      not_full c.args.whole (l.used + 1) (or_neither (s.brief && (l.fault || c.is_fault-fault.result)) (not c.args.whole && leb line_count (l.used + 1)) c.if-ended-whole.false).1,
    )

pub returns : goal.returns
returns c =
    let s = c.args.s.now in
    let l = c.loop-finding in
    let none = step_end may_follow s.by.d c.args.m.now c.args.book.now s.by.section _ _ _ c.next.result (step-as s.by.d c.args.m.now c.args.book.now s.by.section _ _ c.loop-finding.counts c.loop-finding.cursor _ (by-table _ may_follow c.follow_table-table.ensures) c.next.ensures) c.in_default.is in
    listed-last c.requires.0 l.invariant.0 none c.next.auto.starts (λ e. omega (arith, l.invariant.1 e))
