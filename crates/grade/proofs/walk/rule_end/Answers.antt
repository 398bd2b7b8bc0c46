-- `grade::walk::rule_end` meets its contract: a rule ends after its ten bytes where they say one. Assumes nothing.
use Prim.Native.Nat.{ℕ, ◌+◌, ◌≤◌}
use mathlib.Core.Path.{◌≡◌, refl, ◌∙◌}
use mathlib.Core.Bool.{Bool}
use mathlib.Core.List.{List}
use native.Mathlib.Omega.{arith}
use borrow.Author.Tests.{le-leb, lt-leb}
use lib.ListN.{length}
use lib.Seq.{slice}
use Rattle.std.specs.Prelude.{Option, Some, None}
use Rattle.std.specs.Bool.{then_some}
use Rattle.grade.specs.declared.rule.Rule.{Rule}
use Rattle.grade.specs.Limits.{rule_size}
use Rattle.grade.specs.Rule.{rule_of, is_rule}
use Rattle.grade.specs.Standing.{end_of}
use Rattle.grade.specs.Book.{rule_in, rule_read}
use Rattle.grade.proofs.walk.rule_end.Goals as goal

-- the reading, by whether the ten bytes say a rule, over plain variables
whole : (sets : ℕ) (b : List ℕ) (at : ℕ) (t : Bool) → at + rule_size ≤ length b → t ≡ is_rule (rule_of sets (slice at (at + rule_size) b)) →
    then_some t (at + rule_size) ≡ end_of (rule_in sets b at)
unfolding rule_in
whole sets b at t h e = rw (le-leb (at + rule_size) (length b) h, e) (go (rule_of sets (slice at (at + rule_size) b)))
  where
    go : (r : Option Rule) → then_some (is_rule r) (at + rule_size) ≡ end_of (rule_read r b (at + rule_size))
    go (Some rule) = refl
    go None = refl

pub returns-then-saturating_sub-lt-RULE_SIZE : goal.returns-then-saturating_sub-lt-RULE_SIZE
unfolding rule_in
returns-then-saturating_sub-lt-RULE_SIZE c =
    let a = c.args in
    rw (lt-leb (a.at + rule_size) (length a.book.now) (omega (arith, c.saturating_sub.ensures)))

pub returns : goal.returns
returns c =
    let a = c.args in
    c.then_some.ensures ∙ whole a.sets a.book.now a.at _ (omega (arith, c.saturating_sub.ensures)) c.rule_stands.ensures
