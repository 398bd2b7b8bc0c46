-- `booktext::names::Names::number_of` meets its contract, by the invariant that stands beside this. Assumes nothing.
use mathlib.Core.Path.{sym, ◌∙◌}
use native.Mathlib.Omega.{arith}
use borrow.Author.Rules.{rules}
use Rattle.booktext.proofs.Naming.{number-start, number-here, number-later, number-over}
use Rattle.booktext.proofs.names.Names.number_of.Goals as goal

pub loop-i-init : goal.loop-i-init
loop-i-init c = number-start _ _ _

pub returns-then-same_bytes : goal.returns-then-same_bytes
returns-then-same_bytes c = (
  sym (c.loop-i.invariant ∙ number-here _ _ _ _ _ c.loop-i-test.true (search rules) c.same_bytes.ensures c.name_at.ensures c.if-same_bytes.true),
  omega (arith, c.args.self.now.few, c.loop-i-test.true),
)

pub loop-i-preserved : goal.loop-i-preserved
loop-i-preserved c = c.loop-i.invariant ∙ number-later _ _ _ _ _ c.loop-i-test.true (search rules) c.same_bytes.ensures c.name_at.ensures c.if-same_bytes.false

pub returns : goal.returns
returns c = (sym (c.loop-i.invariant ∙ number-over _ _ _ _ _ c.loop-i-test.false), omega arith)
