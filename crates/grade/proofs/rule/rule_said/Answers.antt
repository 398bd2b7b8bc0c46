-- `grade::rule::rule_said` meets its contract: its parts are read where they stand. Assumes nothing.
use Rattle.std.specs.Prelude.{Option, None}
use Prim.Native.Nat.{ℕ, ◌+◌}
use mathlib.Core.Path.{◌≡◌, refl, sym, ◌∙◌}
use mathlib.Core.List.{List}
use lib.ListN.{get_or}
use lib.Seq.{slice}
use Rattle.grade.specs.Limits.{rule_size}
use Rattle.grade.specs.Rule.{name_of_letters, severity_of, kind_of, rule_with, rule_said}
use Rattle.grade.specs.declared.rule.Severity.{Severity}
use Rattle.grade.specs.declared.rule.Kind.{Kind}
use Rattle.grade.proofs.Parts.{said-there}
use Rattle.grade.proofs.rule.rule_said.Goals as goal

-- the calls' answers put together, over plain variables
joined : (b : List ℕ) (at segment : ℕ) (severity : Option Severity) (kind : Option Kind) →
    segment ≡ name_of_letters (get_or b at 0) (get_or b (at + 1) 0) (get_or b (at + 2) 0) → severity_of (get_or b (at + 6) 0) ≡ severity →
    kind_of (get_or b (at + 5) 0) (get_or b (at + 7) 0) (get_or b (at + 8) 0) (get_or b (at + 9) 0) ≡ kind →
    rule_with (record { segment = segment; field = get_or b (at + 3) 0; component = get_or b (at + 4) 0 }) severity kind ≡ rule_said (slice at (at + rule_size) b)
joined b at segment severity kind g s k = rw (g, ← s, ← k) (sym (said-there b at))

pub returns-in_err-severity : goal.returns-in_err-severity
returns-in_err-severity c = c.from_residual.ensures ∙ joined c.args.book.now c.args.at _ None _ c.requires.1 (sym c.severity_of.ensures ∙ c.in_err-severity.was) refl

pub returns-in_err-kind : goal.returns-in_err-kind
returns-in_err-kind c = c.from_residual-in_err-kind.ensures ∙ joined c.args.book.now c.args.at _ _ None c.requires.1 (sym c.severity_of.ensures ∙ c.in_ok-severity.was) (sym c.kind_of.ensures ∙ c.in_err-kind.was)

pub returns : goal.returns
returns c = joined c.args.book.now c.args.at _ _ _ c.requires.1 (sym c.severity_of.ensures ∙ c.in_ok-severity.was) (sym c.kind_of.ensures ∙ c.in_ok-kind.was)
