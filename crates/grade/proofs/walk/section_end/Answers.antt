-- `grade::walk::section_end` meets its contract: at each exit the tests and the calls' answers say what the readers of `section` did. Assumes nothing.
use Rattle.std.specs.Prelude.{Some, None}
use Prim.Native.Nat.{ℕ, ◌+◌, ◌<◌, ◌≤◌}
use mathlib.Core.Path.{◌≡◌, refl, sym, ◌∙◌}
use mathlib.Core.Bool.{Bool, true, false, ◌&&◌}
use mathlib.Core.List.{List}
use native.Mathlib.Omega.{arith}
use borrow.Author.Tests.{le-leb, lt-leb}
use lib.Dec.{leb}
use lib.ListN.{length, get_or}
use Rattle.grade.specs.declared.rule.Rule.{Rule}
use Rattle.grade.specs.Limits.{key_limit, rule_limit, set_limit}
use Rattle.grade.specs.Reader.{found, times, pair}
use Rattle.grade.specs.Standing.{end_of}
use Rattle.grade.specs.Book.{text, rule_in, code_set, section}
use Rattle.grade.proofs.Readings.{ended, faulted, end_given}
use Rattle.grade.proofs.Parts.{text-inside}
use Rattle.grade.proofs.walk.section_end.Goals as goal

-- What each exit of the walk has learnt, one reader after the other, over plain variables.
no_key : (b : List ℕ) (at : ℕ) → end_of (text key_limit b at) ≡ None → end_of (section b at) ≡ None
unfolding section
no_key b at h = rw (faulted (text key_limit b at) h)

module _ (b : List ℕ) (at counts : ℕ) (key : end_of (text key_limit b at) ≡ Some counts) where
  key_found : (k : List ℕ) × (text key_limit b at ≡ found k counts)
  key_found = ended (text key_limit b at) counts key

  no-counts : length b < counts + 3 → end_of (section b at) ≡ None
  unfolding section
  no-counts h = go (leb (counts + 2) (length b)) refl
    where
      go : (t : Bool) → leb (counts + 2) (length b) ≡ t → end_of (section b at) ≡ None
      go true e = rw (key_found.1, e, lt-leb (counts + 2 + 1) (length b) (omega arith))
      go false e = rw (key_found.1, e)

  module _ (rules : ℕ) (counted : rules ≡ pair b counts) (h : counts + 3 ≤ length b) where
    room2 : leb (counts + 2) (length b) ≡ true
    room2 = le-leb (counts + 2) (length b) (omega arith)

    room3 : leb (counts + 2 + 1) (length b) ≡ true
    room3 = le-leb (counts + 2 + 1) (length b) (omega arith)

    over-limit : (leb rules rule_limit && leb (get_or b (counts + 2) 0) set_limit) ≡ false → end_of (section b at) ≡ None
    unfolding section
    over-limit l = rw (key_found.1, room2, room3, ← counted, l)

    module _ (l : (leb rules rule_limit && leb (get_or b (counts + 2) 0) set_limit) ≡ true) where
      third : counts + 2 + 1 ≡ counts + 3
      third = omega arith

      bad-rules : end_of (times rules (rule_in (get_or b (counts + 2) 0)) b (counts + 3)) ≡ None → end_of (section b at) ≡ None
      unfolding section
      bad-rules e = rw (key_found.1, room2, room3, ← counted, l, third, faulted (times rules (rule_in (get_or b (counts + 2) 0)) b (counts + 3)) e)

      module _ (sets_at : ℕ) (r : end_of (times rules (rule_in (get_or b (counts + 2) 0)) b (counts + 3)) ≡ Some sets_at) where
        rules_found : (rs : List Rule) × (times rules (rule_in (get_or b (counts + 2) 0)) b (counts + 3) ≡ found rs sets_at)
        rules_found = ended (times rules (rule_in (get_or b (counts + 2) 0)) b (counts + 3)) sets_at r

        whole : end_of (section b at) ≡ end_of (times (get_or b (counts + 2) 0) code_set b sets_at)
        unfolding section
        whole =
            rw (key_found.1, room2, room3, ← counted, l, third, rules_found.1)
            (end_given (times (get_or b (counts + 2) 0) code_set b sets_at) (λ sets. record { key = key_found.0; rules = rules_found.0; sets = sets }))

pub returns-in_err-counts : goal.returns-in_err-counts
returns-in_err-counts c =
    let a = c.args in
    c.from_residual.ensures ∙ sym (no_key a.book.now a.at (sym c.text_end.ensures ∙ c.in_err-counts.was))

pub overflow_sub-book : goal.overflow_sub-book
overflow_sub-book c =
    let a = c.args in
    let b = a.book.now in
    let counts = c.in_ok-counts.counts in
    let key = sym c.text_end.ensures ∙ c.in_ok-counts.was in
    text-inside key_limit b a.at counts key

pub returns-then-book-counts-lt3 : goal.returns-then-book-counts-lt3
returns-then-book-counts-lt3 c =
    let a = c.args in
    let b = a.book.now in
    let counts = c.in_ok-counts.counts in
    let key = sym c.text_end.ensures ∙ c.in_ok-counts.was in
    sym (no-counts b a.at counts key (omega (arith, text-inside key_limit b a.at counts key)))

pub returns-then-not-rule_count-set_count : goal.returns-then-not-rule_count-set_count
returns-then-not-rule_count-set_count c =
    let a = c.args in
    let b = a.book.now in
    let counts = c.in_ok-counts.counts in
    let key = sym c.text_end.ensures ∙ c.in_ok-counts.was in
    sym (over-limit b a.at counts key c.pair_at-rule_count.result c.pair_at-rule_count.ensures (omega (arith, text-inside key_limit b a.at counts key)) (c.if-not-rule_count-set_count.true))

pub returns-in_err-sets_at : goal.returns-in_err-sets_at
returns-in_err-sets_at c =
    let a = c.args in
    let b = a.book.now in
    let counts = c.in_ok-counts.counts in
    let key = sym c.text_end.ensures ∙ c.in_ok-counts.was in
    c.from_residual-in_err-sets_at.ensures ∙ sym (bad-rules b a.at counts key c.pair_at-rule_count.result c.pair_at-rule_count.ensures (omega (arith, text-inside key_limit b a.at counts key)) (c.if-not-rule_count-set_count.false) (sym c.rules_end.ensures ∙ c.in_err-sets_at.was))

pub returns : goal.returns
returns c =
    let a = c.args in
    let b = a.book.now in
    let counts = c.in_ok-counts.counts in
    let key = sym c.text_end.ensures ∙ c.in_ok-counts.was in
    rw c.from.ensures at c.sets_end.ensures
    ∙ sym (whole b a.at counts key c.pair_at-rule_count.result c.pair_at-rule_count.ensures (omega (arith, text-inside key_limit b a.at counts key)) (c.if-not-rule_count-set_count.false) _ (sym c.rules_end.ensures ∙ c.in_ok-sets_at.was))
